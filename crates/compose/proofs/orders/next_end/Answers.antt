-- By whether a field comes after the place.
use Rattle.compose.proofs.Fields.{skip-one}
use Rattle.compose.proofs.orders.next_end.Goals as goal

pub returns-then-end-line : goal.returns-then-end-line
returns-then-end-line c = skip-one c.args.line.now c.args.end c.if-end-line.true c.field_end.ensures.value c.field_end.ensures.upper_bound
