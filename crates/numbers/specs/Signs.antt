-- What a raw means as a whole number: document 01, "Raw numbers and floats".
use Rattle.std.specs.Prelude.{ℕ, ◌-◌, ◌%◌, ◌^◌, min, Bool, true, false, leb, ℤ, pos}
use Rattle.std.proofs.Math.IntN.{sub_ℕ}
use Rattle.bits.specs.Bits.{pick}

-- "a raw of n bits with its top bit set means raw − 2^n"
abbrev pub signed_of : ℕ → ℕ → ℤ
signed_of n raw = pick (leb (2 ^ (n - 1)) raw) (sub_ℕ raw (2 ^ n)) (pos raw)

-- the whole number that the n low bits of a raw mean in a signed or an unsigned field
abbrev pub meaning_of : ℕ → Bool → ℕ → ℤ
meaning_of n true raw = signed_of n raw
meaning_of n false raw = pos raw

-- `sign_extend`: of the n low bits of a number, n at most 64
abbrev pub sign_extend_of : ℕ → ℕ → ℤ
sign_extend_of value bits = signed_of (min bits 64) (value % 2 ^ min bits 64)
