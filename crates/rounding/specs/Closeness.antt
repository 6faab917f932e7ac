-- How far a float is from a whole number: document 01, "Raw numbers and floats". Definitions only.
use Rattle.std.specs.Prelude.{ℕ, ◌+◌, ◌≤◌, not, ℤ, nat_abs, Float}
use Rattle.std.specs.Int.Signed.{non_neg}
use Rattle.std.specs.Float.Ieee.{size}
use Rattle.std.specs.Float.Ieee.Exact.{HasValue}

-- "bit length": how many binary digits n has, without its sign
abbrev pub bit_length : ℤ → ℕ
bit_length n = size (nat_abs n)

-- x is finite, has the sign of n, and is v in size
abbrev pub Stands : Float → ℤ → ℕ → Type 0
Stands x n v = HasValue x (not (non_neg n)) v 1

-- "exact": x stands for n itself
abbrev pub Exact : Float → ℤ → Type 0
Exact x n = Stands x n (nat_abs n)

-- "off by at most" d: x stands for a whole number of n's sign, and its size v is d at most from n's
pub record Off (d : ℕ) (x : Float) (n : ℤ) : Type 0 where
  pub v : ℕ
  pub stands : Stands x n v
  pub over : v ≤ nat_abs n + d
  pub under : nat_abs n ≤ v + d
