-- What is scaled is a number. Assumes nothing.
use mathlib.Core.Bool.{Bool, true, false}
use Prim.Native.Nat.{ℕ, ◌≤◌}
use lib.Dec.{leb, lit≤}
use Rattle.bits.specs.Bits.{pick}
use Rattle.descriptor.specs.declared.FieldDescriptor.{FieldDescriptor}
use Rattle.descriptor.specs.declared.PgnValue.{PgnValue}
use Rattle.descriptor.specs.declared.Resolution.{Resolution}
use Rattle.descriptor.specs.declared.Resolution.TheVariants.{Unscaled, Single, Double}
use Rattle.numbers.specs.declared.ScaleRule.{ScaleRule}
use Rattle.numbers.specs.declared.ScaleRule.TheVariants.{Plain, Counted, Lasting, Clock, Real, Flags}
use Rattle.numbers.specs.Scaling.{unsigned_of, signed_value_of, duration_of, rule_of_lem, scaled_of, bits_of, scale_of}
use Rattle.numbers.specs.Words.{code_of}
use lib.IntN.{ℤ}

picked : (b : Bool) (v w : PgnValue) → code_of v ≤ 10 → code_of w ≤ 10 → code_of (pick b v w) ≤ 10
picked true v w g h = g
picked false v w g h = h

unsigned_small : (n x : ℕ) → code_of (unsigned_of n x) ≤ 10
unsigned_small n x = picked (leb n 8) _ _ (lit≤ tt) (picked (leb n 16) _ _ (lit≤ tt) (picked (leb n 32) _ _ (lit≤ tt) (lit≤ tt)))

signed-small : (n : ℕ) (z : ℤ) → code_of (signed_value_of n z) ≤ 10
signed-small n z = picked (leb n 8) _ _ (lit≤ tt) (picked (leb n 16) _ _ (lit≤ tt) (picked (leb n 32) _ _ (lit≤ tt) (lit≤ tt)))

duration-small : (n x : ℕ) → code_of (duration_of n x) ≤ 10
duration-small n x = picked (leb n 16) _ _ (lit≤ tt) (picked (leb n 32) _ _ (lit≤ tt) (lit≤ tt))

by-rule : (rule : ScaleRule) (r : Resolution) (n : ℕ) (signed : Bool) (x : ℕ) → code_of (scaled_of rule r n signed x) ≤ 10
by-rule Plain Unscaled n true x = signed-small n _
by-rule Plain Unscaled n false x = unsigned_small n x
by-rule Plain (Single r) n signed x = lit≤ tt
by-rule Plain (Double r) n signed x = lit≤ tt
by-rule Counted Unscaled n signed x = unsigned_small n x
by-rule Counted (Single r) n signed x = lit≤ tt
by-rule Counted (Double r) n signed x = lit≤ tt
by-rule Lasting Unscaled n signed x = duration-small n x
by-rule Lasting (Single r) n signed x = lit≤ tt
by-rule Lasting (Double r) n signed x = lit≤ tt
by-rule Clock Unscaled n signed x = lit≤ tt
by-rule Clock (Single r) n signed x = lit≤ tt
by-rule Clock (Double r) n signed x = lit≤ tt
by-rule Real r n signed x = lit≤ tt
by-rule Flags r n signed x = unsigned_small n x

-- no text and no bytes
pub scaled_small : (f : FieldDescriptor) (x : ℕ) → code_of (scale_of f x) ≤ 10
scaled_small f x = by-rule (rule_of_lem f.kind) f.resolution (bits_of f) f.signed _
