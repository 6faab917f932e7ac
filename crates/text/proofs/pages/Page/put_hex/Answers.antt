-- A number of few digits is put digit by digit.
use mathlib.Core.Path.{ap, ◌∙◌}
use mathlib.Core.List.{[], ◌∷◌}
use Prim.Native.Nat.{ℕ}
use Rattle.text.proofs.Putting.{same}
use Rattle.text.proofs.Spelling.{one-hex}
use Rattle.text.proofs.pages.Page.put_hex.Goals as goal

pub returns-then-n-lt16 : goal.returns-then-n-lt16
returns-then-n-lt16 c = same (ap (λ (x : ℕ). x ∷ []) c.digit_of.ensures ∙ one-hex c.args.n c.if-n-lt16.true) c.put.ensures
