-- What is stored is made of the readings so far.
use Rattle.std.proofs.Common.{refl, arith}
use Rattle.lent_readings.proofs.Turns.{begins, seats, stored-on, ends}
use Rattle.lent_readings.proofs.walked.Goals as goal

pub loop-decoded-init : goal.loop-decoded-init
loop-decoded-init g c = rw c.start-walk.ensures (begins g.E.Entry.one _ _ _ _ refl)

pub store-requires : goal.store-requires
store-requires g c = λ r m. let s = seats _ _ _ _ _ c.loop-decoded.invariant c.next_field-next.ensures r m in omega (arith, s, c.loop-decoded.auto.out)

pub loop-decoded-smaller : goal.loop-decoded-smaller
loop-decoded-smaller g c = (stored-on _ _ _ _ _ c.loop-decoded.invariant c.next_field-next.ensures c.args.table.accepted c.came_to.ensures c.store.ensures c.in_default.is).1

pub loop-decoded-preserved : goal.loop-decoded-preserved
loop-decoded-preserved g c = (stored-on _ _ _ _ _ c.loop-decoded.invariant c.next_field-next.ensures c.args.table.accepted c.came_to.ensures c.store.ensures c.in_default.is).0

pub returns-in-Some : goal.returns-in-Some
returns-in-Some g c = ends _ _ _ _ _ c.loop-decoded.invariant c.next_field-next.ensures c.args.table.accepted c.came_to.ensures c.store.ensures c.in-Some.is
