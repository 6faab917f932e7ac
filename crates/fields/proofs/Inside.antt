-- A field that can be read lies in the payload. Assumes nothing.
use mathlib.Core.Path.{◌≡◌, refl}
use mathlib.Core.Bool.{Bool, true, false}
use Prim.Native.Nat.{ℕ, ◌+◌, ◌-◌, ◌*◌, ◌/◌, ◌≤◌}
use native.Mathlib.Omega.{arith}
use lib.Dec.{eqb, ltb}
use borrow.Author.Tests.{eqb-true}
use Rattle.bits.specs.declared.BitRefusal.{BitRefusal}
use Rattle.std.specs.Prelude.{Result, Ok, Err, ⊤}
use Rattle.bits.specs.Bits.{pick}
use Rattle.bits.proofs.Rooms.{fitting, whole}
use Rattle.tables.specs.Check.{payload_max}
use Rattle.fields.specs.declared.DecodeRefusal.{DecodeRefusal}
use Rattle.fields.specs.declared.DecodeRefusal.TheVariants.{InvalidDataLength}
use Rattle.fields.specs.declared.Shape.{Shape}
use Rattle.fields.specs.declared.Shape.TheVariants.{Number, Gap, Fixed, Whole, Lau, Lz}
use Rattle.fields.specs.Payload.{Payload}
use Rattle.fields.specs.Taken.{if_room_lem, short_of, room_at, bytes_room_lem, text_room_lem, fixed_bytes_lem, lau_taken, closed_by, closed_at_lem, lz_taken, taken_by}

module _ (p : Payload) (at : ℕ) where
  -- the n bits from `at` on
  abbrev pub Fits : ℕ → Type 0
  Fits n = (at + n ≤ p.size * 8) × (p.size ≤ 65536)

  pub data Inside : Result ℕ DecodeRefusal → Type 0 where
    inside : {n : ℕ} → Fits n → Inside (Ok n)
    refused : {e : DecodeRefusal} → Inside (Err e)

  if-room : (r : Result ⊤ BitRefusal) (i : ℕ) (later : Result ℕ DecodeRefusal) → (r ≡ Ok tt → Inside later) → Inside (if_room_lem r i later)
  if-room (Ok u) i later h = h refl
  if-room (Err e) i later h = refused

  short-of : (strict : Bool) (i : ℕ) (r : Result ⊤ BitRefusal) (later : Result ℕ DecodeRefusal) → (r ≡ Ok tt → Inside later) → Inside (short_of strict i r later)
  short-of true i (Ok u) later h = h refl
  short-of false i (Ok u) later h = h refl
  short-of true i (Err e) later h = refused
  short-of false i (Err e) later h = refused

  if-either : (b : Bool) (x y : Result ℕ DecodeRefusal) → (b ≡ true → Inside x) → (b ≡ false → Inside y) → Inside (pick b x y)
  if-either true x y h k = h refl
  if-either false x y h k = k refl

  -- a number of n bits
  number_in : (n : ℕ) → room_at p at n ≡ Ok tt → Inside (Ok n)
  number_in n h = let f = fitting p.size at n 64 h in inside (f.inside, f.short)

  -- n whole bytes
  bytes-in : (n : ℕ) → bytes_room_lem p at n ≡ Ok tt → Inside (Ok (8 * n))
  bytes-in n h = let w = whole p.size at n h in inside {n = 8 * n} (omega (arith, w.aligned, w.inside), w.short)

  -- n bytes of text after the first bits of the field
  text_in : (before n : ℕ) → Fits before → text_room_lem p (at + before) n ≡ Ok tt → Fits (before + 8 * n)
  text_in before n f h = go (eqb n 0) refl h
    where
      go : (b : Bool) → eqb n 0 ≡ b → pick b (Ok tt) (bytes_room_lem p (at + before) n) ≡ Ok tt → Fits (before + 8 * n)
      go true q e = let z = eqb-true n 0 q in (omega (arith, z, f.0), f.1)
      go false q e = let w = whole p.size (at + before) n e in (omega (arith, w.aligned, w.inside), w.short)

  -- one byte more, after the first bits of the field
  byte-in : (before : ℕ) → room_at p (at + before) 8 ≡ Ok tt → Fits (before + 8)
  byte-in before h = let f = fitting p.size (at + before) 8 64 h in (omega (arith, f.inside), f.short)

  closed_in : (n : ℕ) → Fits n → Fits (closed_at_lem p at n)
  closed_in n f = go (room_at p (at + n) 8) refl
    where
      more : (b : Bool) → Fits (n + 8) → Fits (pick b (n + 8) n)
      more true h = h
      more false h = f

      go : (r : Result ⊤ BitRefusal) → room_at p (at + n) 8 ≡ r → Fits (closed_by r (p.bits (at + n) 8) n)
      go (Ok u) e = more (eqb (p.bits (at + n) 8) 0) (byte-in n e)
      go (Err x) e = f

  first_byte : room_at p at 8 ≡ Ok tt → Fits 8
  first_byte h = let f = fitting p.size at 8 64 h in (f.inside, f.short)

  lau-in : (i len : ℕ) → Fits 8 → Inside (lau_taken p i at len)
  lau-in i len f =
      let text : Result ℕ DecodeRefusal = if_room_lem (text_room_lem p (at + 16) (len - 2)) i (Ok (16 + 8 * (len - 2))) in
      let more : Result ℕ DecodeRefusal = if_room_lem (room_at p (at + 8) 8) i text in
      if-either (ltb payload_max len) (Err (InvalidDataLength i)) (pick (ltb len 2) (Ok 8) more) (λ h. refused)
      (λ h. if-either (ltb len 2) (Ok 8) more (λ k. inside f)
      (λ k. if-room (room_at p (at + 8) 8) i text
      (λ e. if-room (text_room_lem p (at + 16) (len - 2)) i (Ok (16 + 8 * (len - 2)))
      (λ t. inside {n = 16 + 8 * (len - 2)} (text_in 16 (len - 2) (byte-in 8 e) t)))))

  lz-in : (i len : ℕ) → Fits 8 → Inside (lz_taken p i at len)
  lz-in i len f =
      let n : ℕ = closed_at_lem p at (8 + 8 * len) in
      if-either (ltb payload_max len) (Err (InvalidDataLength i)) (if_room_lem (text_room_lem p (at + 8) len) i (Ok n)) (λ h. refused)
      (λ h. if-room (text_room_lem p (at + 8) len) i (Ok n) (λ t. inside {n = n} (closed_in (8 + 8 * len) (text_in 8 len f t))))

  pub taken_in : (sh : Shape) (i : ℕ) (early : Bool) (w : ℕ) → Inside (taken_by sh p i early w at)
  taken_in (Number strict) i early w = short-of strict i (room_at p at w) (Ok w) (number_in w)
  taken_in Gap i early w = if-room (room_at p at w) i (Ok w) (number_in w)
  taken_in Fixed i early w = let n = fixed_bytes_lem p early at w in if-room (bytes_room_lem p at n) i (Ok (8 * n)) (bytes-in n)
  taken_in Whole i early w = if-room (bytes_room_lem p at (w / 8)) i (Ok (8 * (w / 8))) (bytes-in (w / 8))
  taken_in Lau i early w = if-room (room_at p at 8) i (lau_taken p i at (p.bits at 8)) (λ h. lau-in i (p.bits at 8) (first_byte h))
  taken_in Lz i early w = if-room (room_at p at 8) i (lz_taken p i at (p.bits at 8)) (λ h. lz-in i (p.bits at 8) (first_byte h))

  pub took_in : {n : ℕ} → Inside (Ok n) → Fits n
  took_in (inside f) = f
