-- A number of few digits is put digit by digit.
use mathlib.Core.Path.{ap, ◌∙◌}
use mathlib.Core.List.{[], ◌∷◌}
use Prim.Native.Nat.{ℕ}
use Rattle.text.proofs.Putting.{then, same}
use Rattle.text.proofs.Spelling.{one-decimal, two-decimal}
use Rattle.text.proofs.pages.Page.put_decimal.Goals as goal

pub returns-then-n-lt10 : goal.returns-then-n-lt10
returns-then-n-lt10 c = same (ap (λ (x : ℕ). x ∷ []) c.digit_of.ensures ∙ one-decimal c.args.n c.if-n-lt10.true) c.put.ensures

pub returns-then-n-lt100 : goal.returns-then-n-lt100
returns-then-n-lt100 c =
    let high = same (ap (λ (x : ℕ). x ∷ []) c.digit_of-then-n-lt100.ensures) c.put-then-n-lt100.ensures in
    let low = same (ap (λ (x : ℕ). x ∷ []) c.digit_of-then-n-lt100-2.ensures) c.put-then-n-lt100-2.ensures in
    same (two-decimal c.args.n c.if-n-lt10.false c.if-n-lt100.true) (then high low)
