-- The values of records stand at the places below their count, and at no other. Assumes nothing.
use mathlib.Core.Path.{sym, subst}
use mathlib.Core.Bool.{Bool, true, false}
use mathlib.Core.List.{List, [], ◌∷◌}
use Prim.Native.Nat.{ℕ, zero, suc, ◌+◌, ◌*◌, ◌/◌, ◌^◌, ◌≤◌, ◌<◌}
use native.Mathlib.Omega.{arith}
use lib.Dec.{eqb, ltb}
use lib.Ieee.{binary32, binary64, of_bits}
use lib.ListN.{length, get_or}
use lib.Signed.{mag}
use borrow.Author.Tests.{lt-ltb, le-ltb}
use Rattle.bits.specs.Bits.{pick}
use Rattle.descriptor.specs.declared.PgnValue.{PgnValue}
use Rattle.descriptor.specs.declared.PgnValue.TheVariants.{U64, U32, U16, U8, I64, I32, I16, I8, F64, F32, Bytes}
use Rattle.numbers.specs.Signs.{signed_of}
use Rattle.walking.proofs.Visits.{All}
use Rattle.offers.specs.declared.Offer.{Offer}
use Rattle.offers.specs.declared.Offer.TheVariants.{Nothing, NoKind, Value}
use Rattle.offers.specs.Records.{within, numbers_of, offer_of_lem, word_at, text_at_lem, record_bytes, record_at_lem, count_of, values_in}
use Rattle.writing.proofs.Loops.{Listed}

-- what holds of what is of no kind, of every number but an f32, of the f32 of a pattern, and of the text that a record is, holds of a record
module _ (P : Offer → Type 0) (none : P NoKind) where
  in_within : (size limit : ℕ) (v : PgnValue) → P (Value v) → P (within size limit v)
  in_within size limit v h = go (ltb size limit)
    where
      go : (b : Bool) → P (pick b (Value v) NoKind)
      go true = h
      go false = none

  in_list : (xs : List Offer) → All P xs → (i : ℕ) → P (get_or xs i NoKind)
  in_list [] h i = none
  in_list (x ∷ xs) h zero = h.0
  in_list (x ∷ xs) h (suc i) = in_list xs h.1 i

  module _ (unsigned : (n : ℕ) → P (Value (U64 n)) × (P (Value (U32 n)) × (P (Value (U16 n)) × P (Value (U8 n)))))
      (signed : (n : ℕ) → P (Value (I64 (signed_of 64 n))) × (P (Value (I32 (signed_of 64 n))) × (P (Value (I16 (signed_of 64 n))) × P (Value (I8 (signed_of 64 n))))))
      (floats : (n : ℕ) → P (Value (F64 (of_bits binary64 n))) × P (Value (F32 (of_bits binary32 n)))) where
    numbers-in : (w : ℕ) → All P (numbers_of w)
    numbers-in w =
        let u = unsigned w in
        let s = signed w in
        let f = floats w in
        let m = mag (signed_of 64 w) in (
          u.0,
          (
            in_within w (2 ^ 32) (U32 w) u.1.0,
            (
              in_within w (2 ^ 16) (U16 w) u.1.1.0,
              (
                in_within w (2 ^ 8) (U8 w) u.1.1.1,
                (
                  s.0,
                  (
                    in_within m (2 ^ 31) (I32 (signed_of 64 w)) s.1.0,
                    (
                      in_within m (2 ^ 15) (I16 (signed_of 64 w)) s.1.1.0,
                      (
                        in_within m (2 ^ 7) (I8 (signed_of 64 w)) s.1.1.1,
                        (f.0, (in_within w (2 ^ 32) (F32 (of_bits binary32 w)) f.1, tt)),
                      ),
                    ),
                  ),
                ),
              ),
            ),
          ),
        )

    pub record-in : (s : List ℕ) (q : ℕ) → P (Value (Bytes (text_at_lem s q))) → P (record_at_lem s q)
    record-in s q h = go (eqb (get_or s q 0) 11)
      where
        go : (b : Bool) → P (pick b (Value (Bytes (text_at_lem s q))) (offer_of_lem (get_or s q 0) (word_at s (q + 8))))
        go true = h
        go false = in_list (NoKind ∷ numbers_of (word_at s (q + 8))) (none, numbers-in (word_at s (q + 8))) (get_or s q 0)

-- ## There is a value

abbrev Some : Offer → Type 0
Some Nothing = ⊥
Some NoKind = Unit {0}
Some (Value v) = Unit {0}

record-some : (s : List ℕ) (q : ℕ) → Some (record_at_lem s q)
record-some s q = record-in Some tt (λ n. (tt, (tt, (tt, tt)))) (λ n. (tt, (tt, (tt, tt)))) (λ n. (tt, tt)) s q tt

pub listed : (s : List ℕ) → Listed (values_in s)
listed s = record {
  past = λ j l. let m : length s / 24 ≤ j = omega (arith, l) in rw (le-ltb j (length s / 24) m, le-ltb j ((length s + 23) / 24) l);
  here = λ j l e. subst Some e (some j l (ltb j (length s / 24)));
}
  where
    some : (j : ℕ) → j < count_of s → (b : Bool) → Some (pick b (record_at_lem s (j * record_bytes)) (pick (ltb j (count_of s)) NoKind Nothing))
    some j l true = record-some s (j * record_bytes)
    some j l false = subst (λ (b : Bool). Some (pick b NoKind Nothing)) (sym (lt-ltb j (count_of s) l)) tt
