-- The bits that a field takes at the least, and what refuses it. Assumes nothing.
use mathlib.Core.Path.{◌≡◌, refl, ap, subst}
use mathlib.Core.Bool.{Bool, true, false}
use Prim.Native.Nat.{ℕ, ◌+◌, ◌-◌, ◌*◌, ◌/◌, ◌≤◌}
use native.Mathlib.Omega.{arith}
use lib.Dec.{eqb, ltb}
use Rattle.std.specs.Prelude.{Result, Ok, Err, ⊤}
use Rattle.bits.specs.Bits.{pick}
use Rattle.bits.specs.declared.BitRefusal.{BitRefusal}
use Rattle.bits.proofs.Rooms.{fitting}
use Rattle.descriptor.specs.declared.FieldDescriptor.{FieldDescriptor}
use Rattle.fields.specs.declared.DecodeRefusal.{DecodeRefusal}
use Rattle.fields.specs.declared.DecodeRefusal.TheVariants.{BitReaderError, InvalidDataLength, NoRoom}
use Rattle.fields.specs.declared.Shape.{Shape}
use Rattle.fields.specs.declared.Shape.TheVariants.{Number, Gap, Fixed, Whole, Lau, Lz}
use Rattle.fields.specs.Payload.{Payload}
use Rattle.fields.specs.Shapes.{shape_of}
use Rattle.fields.specs.Taken.{if_room_lem, short_of, room_at, bytes_room_lem, text_room_lem, fixed_bytes_lem, lau_taken, closed_by, lz_taken, taken_by, taken_of}
use Rattle.fields.specs.Content.{read_over, field_read_of}
use Rattle.tables.specs.Check.{payload_max}

-- m bits or more, or a refusal of a field
pub data Least (m : ℕ) : Result ℕ DecodeRefusal → Type 0 where
  least : {n : ℕ} → m ≤ n → Least m (Ok n)
  bit-refused : {i : ℕ} {e : BitRefusal} → Least m (Err (BitReaderError i e))
  too_short : {i : ℕ} → Least m (Err (InvalidDataLength i))

if-room : {m : ℕ} (r : Result ⊤ BitRefusal) (i : ℕ) (later : Result ℕ DecodeRefusal) → (r ≡ Ok tt → Least m later) → Least m (if_room_lem r i later)
if-room (Ok u) i later h = h refl
if-room (Err e) i later h = bit-refused

short-of : {m : ℕ} (strict : Bool) (i : ℕ) (r : Result ⊤ BitRefusal) (later : Result ℕ DecodeRefusal) → (r ≡ Ok tt → Least m later) → Least m (short_of strict i r later)
short-of true i (Ok u) later h = h refl
short-of false i (Ok u) later h = h refl
short-of true i (Err e) later h = too_short
short-of false i (Err e) later h = bit-refused

either : {m : ℕ} (b : Bool) (x y : Result ℕ DecodeRefusal) → Least m x → Least m y → Least m (pick b x y)
either true x y h k = h
either false x y h k = k

-- the bits that a shape takes at the least
abbrev pub least_of : Shape → Payload → Bool → ℕ → ℕ → ℕ
least_of (Number strict) p early w at = 1
least_of Gap p early w at = 1
least_of Fixed p early w at = 8 * fixed_bytes_lem p early at w
least_of Whole p early w at = 8 * (w / 8)
least_of Lau p early w at = 8
least_of Lz p early w at = 8 + 8 * p.bits at 8

module _ (p : Payload) (at i : ℕ) where
  some : (n : ℕ) → room_at p at n ≡ Ok tt → Least 1 (Ok n)
  some n h = least (fitting p.size at n 64 h).some

  lau-least : (len : ℕ) → Least 8 (lau_taken p i at len)
  lau-least len =
      either (ltb payload_max len) _ _ too_short
      (either (ltb len 2) _ _ (least (omega arith))
      (if-room (room_at p (at + 8) 8) i _ (λ e. if-room (text_room_lem p (at + 16) (len - 2)) i _ (λ h. least (omega arith)))))

  closed-least : (n : ℕ) (r : Result ⊤ BitRefusal) (next : ℕ) → n ≤ closed_by r next n
  closed-least n (Ok u) next = go (eqb next 0)
    where
      go : (b : Bool) → n ≤ pick b (n + 8) n
      go true = omega arith
      go false = omega arith
  closed-least n (Err e) next = omega arith

  lz-least : (len : ℕ) → Least (8 + 8 * len) (lz_taken p i at len)
  lz-least len =
      either (ltb payload_max len) _ _ too_short
      (if-room (text_room_lem p (at + 8) len) i _ (λ h. least (closed-least (8 + 8 * len) (room_at p (at + (8 + 8 * len)) 8) (p.bits (at + (8 + 8 * len)) 8))))

  pub least-taken : (sh : Shape) (early : Bool) (w : ℕ) → Least (least_of sh p early w at) (taken_by sh p i early w at)
  least-taken (Number strict) early w = short-of strict i (room_at p at w) (Ok w) (some w)
  least-taken Gap early w = if-room (room_at p at w) i (Ok w) (some w)
  least-taken Fixed early w = if-room (bytes_room_lem p at (fixed_bytes_lem p early at w)) i _ (λ h. least (omega arith))
  least-taken Whole early w = if-room (bytes_room_lem p at (w / 8)) i _ (λ h. least (omega arith))
  least-taken Lau early w = if-room (room_at p at 8) i _ (λ h. lau-least (p.bits at 8))
  least-taken Lz early w = if-room (room_at p at 8) i _ (λ h. lz-least (p.bits at 8))

  took-least : {m n : ℕ} → Least m (Ok n) → m ≤ n
  took-least (least h) = h

  -- of a field that is taken
  pub least-took : (sh : Shape) (early : Bool) (w n : ℕ) → taken_by sh p i early w at ≡ Ok n → least_of sh p early w at ≤ n
  least-took sh early w n h = took-least (subst (Least (least_of sh p early w at)) h (least-taken sh early w))

never : {m : ℕ} {o : Result ℕ DecodeRefusal} (j : ℕ) → Least m o → o ≡ Err (NoRoom j) → ⊥
never j (least h) e = cc
never j bit-refused e = cc
never j too_short e = cc

-- no field says that there is no room for its reading
pub no_room : (p : Payload) (f : FieldDescriptor) (i : ℕ) (early : Bool) (at j : ℕ) → field_read_of p f i early at ≡ Err (NoRoom j) → ⊥
no_room p f i early at j h = go (shape_of f) (taken_of p f i early at) h (least-taken p at i (shape_of f) early f.width)
  where
    go : (sh : Shape) {m : ℕ} (o : Result ℕ DecodeRefusal) → read_over o sh f p at ≡ Err (NoRoom j) → Least m o → ⊥
    go sh (Err e) q l = let z : e ≡ NoRoom j = cc in never j l (ap Err z)
    go (Number b) (Ok n) q l = cc
    go Gap (Ok n) q l = cc
    go Fixed (Ok n) q l = cc
    go Whole (Ok n) q l = cc
    go Lau (Ok n) q l = cc
    go Lz (Ok n) q l = cc
