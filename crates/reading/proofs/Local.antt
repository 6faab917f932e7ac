-- A field is read from the bits of its own span, and a StringLz from one byte more: of two payloads of one length. Assumes nothing.
use mathlib.Core.Path.{◌≡◌, refl, sym, ap, ◌∙◌}
use mathlib.Core.Bool.{Bool, true, false, ◌||◌}
use Prim.Native.Nat.{ℕ, ◌+◌, ◌-◌, ◌*◌, ◌/◌, ◌%◌, ◌≤◌}
use native.Mathlib.Omega.{arith}
use lib.Dec.{eqb, ltb}
use borrow.Author.Tests.{eqb-false, ltb-false}
use Rattle.bits.specs.declared.BitRefusal.{BitRefusal}
use Rattle.std.specs.Prelude.{Some, Result, Ok, None, ⊤, Err}
use Rattle.bits.specs.Bits.{pick}
use Rattle.bits.proofs.Rooms.{whole}
use Rattle.descriptor.specs.declared.FieldDescriptor.{FieldDescriptor}
use Rattle.tables.specs.Table.{Table}
use Rattle.fields.specs.declared.DecodeRefusal.{DecodeRefusal}
use Rattle.fields.specs.declared.Shape.{Shape}
use Rattle.fields.specs.declared.Shape.TheVariants.{Number, Gap, Fixed, Whole, Lau, Lz}
use Rattle.fields.specs.Payload.{Payload}
use Rattle.fields.specs.Shapes.{shape_of}
use Rattle.fields.specs.Taken.{if_room_lem, if_length, room_at, text_room_lem, lau_taken, closed_by, taken_by}
use Rattle.fields.specs.Content.{text_at_lem, encoding_in_lem, raw_in, value_in, ends, unless, availability_by}
use Rattle.reading.specs.declared.Span.{Span}
use Rattle.reading.specs.Decode.{reading_of}
use Rattle.reading.specs.Demand3.{past, last_by, Ruled}
use Rattle.reading.proofs.Least.{least-took}

-- the bits that a shape looks at past its span
abbrev pub look_of : Shape → ℕ
look_of (Number strict) = 0
look_of Gap = 0
look_of Fixed = 0
look_of Whole = 0
look_of Lau = 0
look_of Lz = 8

-- two payloads say the same between two places
abbrev pub Agree : (ℕ → ℕ → ℕ) → (ℕ → ℕ → ℕ) → ℕ → ℕ → Type 0
Agree b b' lo hi = (at n : ℕ) → lo ≤ at → at + n ≤ hi → b at n ≡ b' at n

-- a field that is taken had room
fits : (r : Result ⊤ BitRefusal) (i : ℕ) (later : Result ℕ DecodeRefusal) (n : ℕ) → if_room_lem r i later ≡ Ok n → r ≡ Ok tt
fits (Ok u) i later n h = refl
fits (Err e) i later n h = cc

module _ (m : ℕ) (b b' : ℕ → ℕ → ℕ) where
  abbrev p : Payload
  p = record { size = m; bits = b }

  abbrev p' : Payload
  p' = record { size = m; bits = b' }

  module _ (i : ℕ) (early : Bool) (w at n : ℕ) where
    -- a StringLau by its length byte
    lau-local : taken_by Lau p i early w at ≡ Ok n → Agree b b' at (at + n) → taken_by Lau p' i early w at ≡ Ok n
    lau-local e a =
        let l = least-took p at i Lau early w n e in
        ap (λ (len : ℕ). if_room_lem (room_at p at 8) i (lau_taken p i at len)) (sym (a at 8 (omega arith) (omega arith))) ∙ e

    -- by the length byte and the byte after the text
    abbrev lz_by : ℕ → ℕ → Result ℕ DecodeRefusal
    lz_by len next = if_room_lem (room_at p at 8) i (if_length i len (if_room_lem (text_room_lem p (at + 8) len) i (Ok (closed_by (room_at p (at + (8 + 8 * len)) 8) next (8 + 8 * len)))))

    lz-local : taken_by Lz p i early w at ≡ Ok n → Agree b b' at (at + n + 8) → taken_by Lz p' i early w at ≡ Ok n
    lz-local e a =
        let l = least-took p at i Lz early w n e in
        ap (λ (len : ℕ). lz_by len (b' (at + (8 + 8 * len)) 8)) (sym (a at 8 (omega arith) (omega arith)))
        ∙ ap (λ (next : ℕ). lz_by (b at 8) next) (sym (a (at + (8 + 8 * b at 8)) 8 (omega arith) (omega arith)))
        ∙ e

    nothing-past : Agree b b' at (at + n + 0) → Agree b b' at (at + n)
    nothing-past a at₁ n₁ l u = a at₁ n₁ l (omega arith)

    -- a field takes the same bits in both
    pub taken-local : (sh : Shape) → taken_by sh p i early w at ≡ Ok n → Agree b b' at (at + n + look_of sh) → taken_by sh p' i early w at ≡ Ok n
    taken-local (Number strict) e a = e
    taken-local Gap e a = e
    taken-local Fixed e a = e
    taken-local Whole e a = e
    taken-local Lau e a = lau-local e (nothing-past a)
    taken-local Lz e a = lz-local e a

    -- a number asks nothing of the bits
    pub number-taken : (sh : Shape) (strict : Bool) → sh ≡ Number strict → taken_by sh p i early w at ≡ Ok n → taken_by sh p' i early w at ≡ Ok n
    number-taken (Number strict) x q e = e
    number-taken Gap x q e = e
    number-taken Fixed x q e = e
    number-taken Whole x q e = e
    number-taken Lau x q e = cc
    number-taken Lz x q e = cc

    -- ## What is read

    -- raw, value and availability
    abbrev Same : Shape → FieldDescriptor → Type 0
    Same sh f = (raw_in sh p at n ≡ raw_in sh p' at n) × (value_in sh f p at n ≡ value_in sh f p' at n)
        × (availability_by sh p f (raw_in sh p at n) (value_in sh f p at n) ≡ availability_by sh p' f (raw_in sh p at n) (value_in sh f p at n))

    -- the encoding byte of a StringLau that has one
    encoding-local : Agree b b' at (at + n) → encoding_in_lem p at n ≡ encoding_in_lem p' at n
    encoding-local a = go (ltb n 16) refl
      where
        go : (c : Bool) → ltb n 16 ≡ c → pick c None (Some (b (at + 8) 8)) ≡ pick c None (Some (b' (at + 8) 8))
        go true q = refl
        go false q = let l = ltb-false n 16 q in ap Some (a (at + 8) 8 (omega arith) (omega arith))

    -- the first byte of a StringFix that has one
    fixed-local : at % 8 ≡ 0 → Agree b b' at (at + n)
        → unless (eqb (n / 8) 0 || ends (b (8 * pick (eqb (n / 8) 0) 0 (at / 8)) 8)) ≡ unless (eqb (n / 8) 0 || ends (b' (8 * pick (eqb (n / 8) 0) 0 (at / 8)) 8))
    fixed-local q a = go (eqb (n / 8) 0) refl
      where
        go : (c : Bool) → eqb (n / 8) 0 ≡ c → unless (c || ends (b (8 * pick c 0 (at / 8)) 8)) ≡ unless (c || ends (b' (8 * pick c 0 (at / 8)) 8))
        go true r = refl
        go false r = let z : n / 8 ≡ 0 → ⊥ = eqb-false (n / 8) 0 r in ap (λ (x : ℕ). unless (ends x)) (a (8 * (at / 8)) 8 (omega arith) (omega arith))

    content-local : (sh : Shape) (f : FieldDescriptor) → taken_by sh p i early w at ≡ Ok n → Agree b b' at (at + n) → Same sh f
    content-local (Number strict) f e a =
        let q = a at n (omega arith) (omega arith) in
        (ap Some q, ap (λ (x : ℕ). value_in (Number strict) f (record { size = m; bits = λ (_ _ : ℕ). x }) at n) q, refl)
    content-local Gap f e a = (refl, refl, refl)
    content-local Fixed f e a = (refl, refl, fixed-local (whole m at _ (fits _ i _ n e)).aligned a)
    content-local Whole f e a = (refl, refl, refl)
    content-local Lau f e a = (refl, ap (text_at_lem (at / 8 + 2) (n / 8 - 2)) (encoding-local a), refl)
    content-local Lz f e a =
        let l = least-took p at i Lz early w n e in
        (refl, ap (λ (x : ℕ). text_at_lem (at / 8 + 1) x None) (a at 8 (omega arith) (omega arith)), refl)

  -- a reading is the same in both
  pub reading-local : (t : Table) (v : Span) → Ruled t p v → Agree b b' v.start.0 (past v) → reading_of t p' v ≡ reading_of t p v
  reading-local t v e a =
      let f = t.field v.field in
      let c = content-local v.field (last_by t v.field v.element) f.width v.start.0 v.bits.0 (shape_of f) f e a in
      rw (← c.0, ← c.1, ← c.2)
