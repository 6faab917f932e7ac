-- By whether the first field is T.
use Rattle.compose.proofs.Fields.{first-skipped, after_one, after-three}
use Rattle.compose.proofs.orders.values_from.Goals as goal

pub returns-then-is_t : goal.returns-then-is_t
returns-then-is_t c =
    let first = first-skipped c.args.line.now c.field_end-first.ensures.value c.field_end-first.ensures.upper_bound in
    after-three c.args.line.now c.word.ensures c.is_t.ensures _ _ _ first c.next_end-second.ensures c.next_end.ensures c.if-is_t.true

pub returns : goal.returns
returns c =
    let first = first-skipped c.args.line.now c.field_end-first.ensures.value c.field_end-first.ensures.upper_bound in
    after_one c.args.line.now c.word.ensures c.is_t.ensures _ first c.if-is_t.false
