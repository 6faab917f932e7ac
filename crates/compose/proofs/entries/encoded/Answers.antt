-- Two digits are a byte.
use mathlib.Core.Path.{sym, ◌∙◌}
use native.Mathlib.Omega.{arith}
use Rattle.compose.proofs.Letters.{byte}
use Rattle.compose.proofs.entries.encoded.Goals as goal

pub overflow_mul-e : goal.overflow_mul-e
overflow_mul-e c = omega (arith, byte _ (sym c.hex.ensures ∙ c.in_ok-e.was) c.if-x-ne2.false)

pub overflow_add-e : goal.overflow_add-e
overflow_add-e c = omega (arith, byte _ (sym c.hex.ensures ∙ c.in_ok-e.was) c.if-x-ne2.false)
