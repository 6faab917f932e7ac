-- The check accepts the words that `words` lends.
use mathlib.Core.Path.{ap, ◌∙◌}
use mathlib.Core.List.{List}
use Prim.Native.Nat.{ℕ}
use Rattle.tables.specs.Table.{table_of}
use Rattle.tables.specs.Check.{check_of}
use Rattle.messages.proofs.Accepted.{accepted}
use Rattle.messages.proofs.Message.table.Goals as goal

pub invariant_of-result : goal.invariant_of-result
invariant_of-result c =
    let checked = λ (ws : List ℕ). check_of (table_of ws) in
    record { accepted = ap checked c.words.ensures ∙ accepted c.args.self }
