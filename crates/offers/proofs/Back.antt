-- What decoding tells of a number is an offer of that number: its kind's code and its 64 bits, handed back. Assumes nothing.
use mathlib.Core.Path.{◌≡◌, refl, sym, ap, ◌∙◌}
use Prim.Native.Nat.{ℕ, suc, ◌-◌, ◌^◌, ◌≤◌, ◌<◌}
use native.Mathlib.Nat.{lt_of_lt_of_le}
use native.Mathlib.Omega.{arith}
use lib.Dec.{T, lit≤}
use lib.Ieee.{binary32, binary64, fits, to_bits}
use lib.Ieee.Bits.{of_bits-to_bits, to_bits-lt}
use lib.IntN.{ℤ, pos, negsuc}
use lib.Pow.{pow_mono}
use lib.Signed.{mag}
use Rattle.descriptor.specs.declared.PgnValue.{PgnValue}
use Rattle.descriptor.specs.declared.PgnValue.TheVariants.{U64, U32, U16, U8, I64, I32, I16, I8, F64, F32, Bytes}
use Rattle.numbers.specs.Signs.{signed_of}
use Rattle.numbers.specs.Words.{twos_of, code_of, word_of_lem}
use Rattle.numbers.proofs.Widths.{clear, set}
use Rattle.offers.specs.declared.Offer.TheVariants.{Value}
use Rattle.offers.specs.Records.{within, offer_of_lem}
use Rattle.offers.proofs.Within.{held}

-- a number that is in the range of its kind
abbrev pub Ranged : PgnValue → Type 0
Ranged (U64 n) = n < 2 ^ 64
Ranged (U32 n) = n < 2 ^ 32
Ranged (U16 n) = n < 2 ^ 16
Ranged (U8 n) = n < 2 ^ 8
Ranged (I64 z) = mag z < 2 ^ 63
Ranged (I32 z) = mag z < 2 ^ 31
Ranged (I16 z) = mag z < 2 ^ 15
Ranged (I8 z) = mag z < 2 ^ 7
Ranged (F64 x) = T (fits binary64 x)
Ranged (F32 x) = T (fits binary32 x)
Ranged (Bytes b) = ⊥

-- two's complement, read again
signed_back : (z : ℤ) → mag z < 2 ^ 63 → signed_of 64 (twos_of z) ≡ z
signed_back (pos m) h = clear 64 m h
signed_back (negsuc m) h =
    let d : 2 ^ 64 - suc (2 ^ 64 - suc m) ≡ m = omega arith in
    set 64 (2 ^ 64 - suc m) (omega arith) (omega arith) ∙ ap negsuc d

-- a signed kind of n bits and its sign
within-back : (n : ℕ) (of : ℤ → PgnValue) (z : ℤ) → n ≤ 63 → mag z < 2 ^ n → within (mag (signed_of 64 (twos_of z))) (2 ^ n) (of (signed_of 64 (twos_of z))) ≡ Value (of z)
within-back n of z l h =
    ap (λ (y : ℤ). within (mag y) (2 ^ n) (of y)) (signed_back z (lt_of_lt_of_le h (pow_mono l))) ∙ sym (held (mag z) (2 ^ n) (of z) h)

pub handed-back : (v : PgnValue) → Ranged v → offer_of_lem (code_of v) (word_of_lem v) ≡ Value v
handed-back (U64 n) h = refl
handed-back (U32 n) h = sym (held n (2 ^ 32) (U32 n) h)
handed-back (U16 n) h = sym (held n (2 ^ 16) (U16 n) h)
handed-back (U8 n) h = sym (held n (2 ^ 8) (U8 n) h)
handed-back (I64 z) h = ap (λ (y : ℤ). Value (I64 y)) (signed_back z h)
handed-back (I32 z) h = within-back 31 I32 z (lit≤ tt) h
handed-back (I16 z) h = within-back 15 I16 z (lit≤ tt) h
handed-back (I8 z) h = within-back 7 I8 z (lit≤ tt) h
handed-back (Bytes _) h = elim h [ ]
handed-back (F64 x) h = ap (λ y. Value (F64 y)) (of_bits-to_bits binary64 x h)
handed-back (F32 x) h =
    sym (held (to_bits binary32 x) (2 ^ 32) (F32 _) (to_bits-lt binary32 x h)) ∙ ap (λ y. Value (F32 y)) (of_bits-to_bits binary32 x h)
