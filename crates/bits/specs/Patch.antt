-- One turn of a write: no part of the law, but what the byte at hand becomes.
use Rattle.std.specs.Prelude.{ℕ, ◌+◌, ◌*◌, ◌/◌, ◌%◌, ◌^◌}

-- the byte b with the t low bits of x in the place of its t bits from bit o on
abbrev pub patch : ℕ → ℕ → ℕ → ℕ → ℕ
patch b o t x = (b / 2 ^ (o + t) * 2 ^ t + x % 2 ^ t) * 2 ^ o + b % 2 ^ o
