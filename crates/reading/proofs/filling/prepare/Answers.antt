-- By the refusal, then by the test. An accepted table's length is at most 223, so that
-- the run has room for what is filled.
use mathlib.Core.Path.{sym, ◌∙◌}
use native.Mathlib.Omega.{arith}
use lib.ListN.{length}
use Rattle.tables.specs.Table.{table_of}
use Rattle.tables.proofs.Accepted.{sizes}
use Rattle.reading.proofs.Working.{readied, filled-lt}
use Rattle.reading.proofs.filling.prepare.Goals as goal

pub fill-requires : goal.fill-requires
fill-requires c =
    let t = table_of c.args.words.now in
    let r = readied t (length c.args.received.now) (length c.args.padded.now) ((sym c.prepared.ensures ∙ c.in_ok-prepared.was)) in
    let l = filled-lt t (length c.args.received.now) (sym c.is_filled.ensures ∙ c.if-is_filled.true) in
    let s = sizes t r.table in
    (omega arith, omega arith)
