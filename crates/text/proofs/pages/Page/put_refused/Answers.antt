use mathlib.Core.Path.{ap}
use mathlib.Core.List.{List, ◌∷◌, ◌++◌}
use Prim.Native.Nat.{ℕ}
use lib.Dec.{eqb}
use Rattle.text.specs.Digits.{spaced}
use Rattle.text.proofs.Putting.{then, same}
use Rattle.text.proofs.Carrying.{three}
use Rattle.text.proofs.pages.Page.put_refused.Goals as goal

pub returns : goal.returns
returns c =
    same (ap (λ (x : List ℕ). 70 ∷ spaced c.args.number ++ x) (three (eqb c.args.number 8) c.args.count c.args.first c.args.second c.args.third))
    (then c.put.ensures (then c.put_number.ensures (then (then c.put_if.ensures c.put_if-2.ensures) c.put_if-3.ensures)))
