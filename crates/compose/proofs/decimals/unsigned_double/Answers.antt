-- 15 digits fit.
use mathlib.Core.Path.{refl, sym, ap, ◌∙◌}
use Prim.Native.Nat.{ℕ}
use native.Mathlib.Omega.{arith}
use Rattle.std.specs.Prelude.{Option, unwrap_or}
use Rattle.compose.proofs.Digits.{power-fits, fits}
use Rattle.compose.proofs.decimals.unsigned_double.Goals as goal

pub pow-power-requires : goal.pow-power-requires
pow-power-requires c = power-fits _ (omega (arith, c.if-whole-rest-gt-DIGITS.false))

pub overflow_mul-n : goal.overflow_mul-n
overflow_mul-n c =
    omega
    (arith, fits c.head-whole.result.now c.tail-rest.result.now (sym c.decimal.ensures ∙ c.in_ok-a.was) refl c.if-whole-rest-gt-DIGITS.false c.pow-power.ensures)

pub overflow_add-n : goal.overflow_add-n
overflow_add-n c =
    omega
    (arith, fits c.head-whole.result.now c.tail-rest.result.now (sym c.decimal.ensures ∙ c.in_ok-a.was) (c.unwrap_or.ensures ∙ ap (λ (n : Option ℕ). unwrap_or n 0) c.decimal-b.ensures) c.if-whole-rest-gt-DIGITS.false c.pow-power.ensures)
