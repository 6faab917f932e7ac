-- By the first field.
use Rattle.text.proofs.Putting.{same}
use Rattle.compose.proofs.Ordering.{table-order, pgn-order}
use Rattle.compose.proofs.orders.put_order.Goals as goal

pub returns-then-is_t : goal.returns-then-is_t
returns-then-is_t c = same (table-order c.args.line.now c.args.values.now c.args.lent.now c.word-first.ensures c.is_t.ensures c.if-is_t.true c.word.ensures c.word-then-is_t.ensures) c.put_by_table.ensures

pub returns : goal.returns
returns c = same (pgn-order c.args.line.now c.args.values.now c.args.lent.now c.word-first.ensures c.is_t.ensures c.if-is_t.false) c.put_by_pgn.ensures
