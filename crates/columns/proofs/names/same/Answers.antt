-- Bytes that are the same, and no others, are the same text.
use Rattle.columns.proofs.Naming.{told}
use Rattle.columns.proofs.names.same.Goals as goal

pub returns : goal.returns
returns c = told _ _ _ c.same.ensures
