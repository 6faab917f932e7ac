-- A message's table fills nothing.
use mathlib.Core.Path.{ap, ◌∙◌}
use mathlib.Core.List.{List}
use Prim.Native.Nat.{ℕ}
use Rattle.tables.specs.Table.{table_of}
use Rattle.messages.proofs.Accepted.{no-minimum}
use Rattle.records.proofs.pgns.decode_pgn_into.Goals as goal

pub known-requires : goal.known-requires
known-requires c = ap (λ (ws : List ℕ). (table_of ws).minimum) c.table.ensures ∙ no-minimum c.in_ok-message.message
