-- Its words are those of the reading.
use mathlib.Core.Path.{ap, ◌∙◌}
use mathlib.Core.List.{List}
use Prim.Native.Nat.{ℕ}
use Rattle.records.specs.Layout.{laid}
use Rattle.records.specs.Puts.{puts}
use Rattle.records.proofs.Worth.{number-record}
use Rattle.records.proofs.readings.put_number.Goals as goal

pub returns : goal.returns
returns c =
    c.put_words.ensures
    ∙ ap (λ (ws : List ℕ). puts c.args.out.now c.args.at (laid ws)) (number-record c.args.i c.args.e c.args.start c.args.f c.args.raw _ c.number_words-n.ensures)
