-- What it says that a call is not refused, and when it is not; what refusal 2 of a slice call tells; and that refusal 2 of a number call, and of a slice call
-- that is not past the end, asks for more than is left. Assumes nothing.
use mathlib.Core.Path.{◌≡◌, refl}
use mathlib.Core.Logic.{◌⊎◌, inl, inr}
use mathlib.Core.Bool.{Bool, true, false, not}
use Prim.Native.Nat.{ℕ, ◌+◌, ◌-◌, ◌*◌, ◌/◌, ◌%◌, ◌≤◌, ◌<◌}
use native.Mathlib.Omega.{arith}
use lib.Dec.{eqb, ltb}
use borrow.Author.Tests.{ltb-true, ltb-false, eqb-false, eqb-true, not-false, le-ltb, ne_eqb, eq-eqb}
use Rattle.bits.specs.declared.BitRefusal.{BitRefusal}
use Rattle.bits.specs.declared.BitRefusal.TheVariants.{BufferTooLong, TooLongForType, NonAlignedBit, OutOfBits, OutOfBytes}
use Rattle.bits.specs.declared.ByteCount.{ByteCount}
use Rattle.std.specs.Prelude.{⊤, Result, Ok, Err}
use Rattle.bits.specs.Calls.{bits, bytes, buffer_max, width_max, refuse, room_of, out_of_bytes, slice_room_of}

not-refused : (t : Bool) (e : BitRefusal) (b : Result ⊤ BitRefusal) → refuse t e b ≡ Ok tt → (t ≡ false) × (b ≡ Ok tt)
not-refused true e b h = cc
not-refused false e b h = (refl, h)

-- a number call that is not refused
pub record Fitting (len at n max : ℕ) : Type 0 where
  pub short : len ≤ 65536
  pub some : 0 < n
  pub narrow : n ≤ max
  pub inside : at + n ≤ len * 8

pub fitting : (len at n max : ℕ) → room_of len at n max ≡ Ok tt → Fitting len at n max
fitting len at n max h =
    let a = not-refused _ _ _ h in
    let b = not-refused _ _ _ a.1 in
    let d = not-refused _ _ _ b.1 in
    let e = not-refused _ _ _ d.1 in
    let short : len ≤ 65536 = ltb-false 65536 len a.0 in
    let nonzero : n ≡ 0 → ⊥ = eqb-false n 0 b.0 in
    let narrow : n ≤ max = ltb-false max n d.0 in
    let inside : at + n ≤ len * 8 = ltb-false (len * 8) (at + n) e.0 in
    record { short = short; some = omega arith; narrow = narrow; inside = inside }

pub room_fits : (len at n max : ℕ) → Fitting len at n max → room_of len at n max ≡ Ok tt
room_fits len at n max f =
    let nz : n ≡ 0 → ⊥ = λ e. omega arith in
    simp (le-ltb 65536 len f.short, ne_eqb n 0 nz, le-ltb max n f.narrow, le-ltb (len * 8) (at + n) f.inside)

-- a slice call that is not refused
pub record Whole (len at n : ℕ) : Type 0 where
  pub short : len ≤ 65536
  pub aligned : at % 8 ≡ 0
  pub inside : at / 8 + n ≤ len

pub whole : (len at n : ℕ) → slice_room_of len at n ≡ Ok tt → Whole len at n
whole len at n h =
    let a = not-refused _ _ _ h in
    let b = not-refused _ _ _ a.1 in
    let d = not-refused _ _ _ b.1 in
    record {
      short = ltb-false 65536 len a.0;
      aligned = eqb-true (at % 8) 0 (not-false (eqb (at % 8) 0) b.0);
      inside = ltb-false len (at / 8 + n) d.0;
    }

pub slice_fits : (len at n : ℕ) → Whole len at n → slice_room_of len at n ≡ Ok tt
slice_fits len at n f =
    simp (le-ltb 65536 len f.short, eq-eqb (at % 8) 0 f.aligned, le-ltb len (at / 8 + n) f.inside)

-- refusal 2 of a slice call, of n bytes at bit `at` of a buffer of len bytes
pub record Short (len at n : ℕ) (asked available : ByteCount) : Type 0 where
  -- "the length asked .."
  pub asks : asked.0 ≡ n
  -- ".. and the whole bytes left from the cursor, 0 past the end"
  pub leaves : available.0 ≡ len - at / 8
  -- asked is above available, but for the empty slice past the end
  pub above : (available.0 < asked.0) ⊎ ((n ≡ 0) × (len * 8 < at))
  -- what is left can be had, and no byte more
  pub had : at ≤ len * 8 → (m : ℕ) → m ≤ available.0 → slice_room_of len at m ≡ Ok tt
  pub no_more : (m : ℕ) → available.0 < m → slice_room_of len at m ≡ Ok tt → ⊥

pub short : (len at n : ℕ) (asked available : ByteCount) → slice_room_of len at n ≡ Err (OutOfBytes asked available) → Short len at n asked available
short len at n asked available h = go (ltb buffer_max len) (not (eqb (at % 8) 0)) (ltb len (at / 8 + n)) refl refl refl h
  where
    over : (wanted left : ℕ) (b : Bool) → eqb n 0 ≡ b → wanted ≡ n → left ≡ len - at / 8 → len < at / 8 + n → (left < wanted) ⊎ ((n ≡ 0) × (len * 8 < at))
    over wanted left true z e d p = let none : n ≡ 0 = eqb-true n 0 z in inr (none, omega arith)
    over wanted left false z e d p = let some : n ≡ 0 → ⊥ = eqb-false n 0 z in inl (omega arith)

    go : (a b d : Bool) → ltb buffer_max len ≡ a → not (eqb (at % 8) 0) ≡ b → ltb len (at / 8 + n) ≡ d
        → refuse a (BufferTooLong (bytes len)) (refuse b (NonAlignedBit (bits at)) (refuse d (out_of_bytes len at n) (Ok tt))) ≡ Err (OutOfBytes asked available)
        → Short len at n asked available
    go true b d p q r e = cc
    go false true d p q r e = cc
    go false false false p q r e = cc
    go false false true p q r e =
        let small : len ≤ 65536 = ltb-false 65536 len p in
        let aligned : at % 8 ≡ 0 = eqb-true (at % 8) 0 (not-false (eqb (at % 8) 0) q) in
        let past : len < at / 8 + n = ltb-true len (at / 8 + n) r in
        let asks : asked.0 ≡ n = cc in
        let told : available.0 ≡ (len * 8 - at) / 8 = cc in
        let leaves : available.0 ≡ len - at / 8 = omega (arith, told, aligned) in
        record {
          asks = asks;
          leaves = leaves;
          above = over asked.0 available.0 (eqb n 0) refl asks leaves past;
          had = λ i m l. slice_fits len at m (record { short = small; aligned = aligned; inside = omega (arith, leaves, i, l) });
          no_more = λ m l f. let inside = (whole len at m f).inside in omega (arith, leaves, l, inside);
        }

-- in refusal 2 asked is above available; of any other refusal it says nothing
abbrev pub Above : Result ⊤ BitRefusal → Type 0
Above (Err (OutOfBits asked available)) = available.0 < asked.0
Above (Err (OutOfBytes asked available)) = available.0 < asked.0
Above (Err (BufferTooLong len)) = Unit {0}
Above (Err (TooLongForType max asked)) = Unit {0}
Above (Err (NonAlignedBit at)) = Unit {0}
Above (Ok u) = Unit {0}

refused-above : (b : Bool) (e : BitRefusal) (later : Result ⊤ BitRefusal) → (b ≡ true → Above (Err e)) → (b ≡ false → Above later) → Above (refuse b e later)
refused-above true e later h k = h refl
refused-above false e later h k = k refl

-- in a number call
pub number-above : (len at n max : ℕ) → Above (room_of len at n max)
number-above len at n max =
    refused-above (ltb buffer_max len) _ _ (λ a. tt) (λ a.
    refused-above (eqb n 0) (TooLongForType width_max n) _ (λ b. tt) (λ b.
    refused-above (ltb max n) (TooLongForType max n) _ (λ d. tt) (λ d.
    refused-above (ltb (len * 8) (at + n)) (OutOfBits (bits n) (bits (len * 8 - at))) (Ok tt)
    (λ e.
    let some : n ≡ 0 → ⊥ = eqb-false n 0 b in
    let past : len * 8 < at + n = ltb-true (len * 8) (at + n) e in
    omega arith)
    (λ e. tt))))

-- in a slice call that is not past the end
pub slice-above : (len at n : ℕ) → at ≤ len * 8 → Above (slice_room_of len at n)
slice-above len at n i =
    refused-above (ltb buffer_max len) _ _ (λ a. tt) (λ a.
    refused-above (not (eqb (at % 8) 0)) (NonAlignedBit (bits at)) _ (λ b. tt) (λ b.
    refused-above (ltb len (at / 8 + n)) (out_of_bytes len at n) (Ok tt)
    (λ d.
    let past : len < at / 8 + n = ltb-true len (at / 8 + n) d in
    omega (arith, i))
    (λ d. tt)))
