-- Stretch by stretch, with the last field of each noted.
use mathlib.Core.Path.{◌≡◌}
use mathlib.Core.List.{List}
use Prim.Native.Nat.{ℕ, ◌-◌, ◌≤◌}
use Rattle.std.specs.Prelude.{None}
use Rattle.walking.specs.Walk.{Element}
use Rattle.tables.specs.Table.{Table, table_of}
use Rattle.fields.specs.Payload.{Payload, payload_of}
use Rattle.reading.specs.declared.Progress.{Progress}
use Rattle.reading.specs.Groups.{noted_by_lem}
use Rattle.reading.specs.Decode.{progress_at}
use Rattle.records.specs.declared.Stretch.{Stretch}
use Rattle.records.specs.Stretches.{Ran, Runs}
use Rattle.records.proofs.Quickly.{roomy-on, ran-none}
use Rattle.records.proofs.Noting.{ran_then}
use Rattle.records.proofs.Leading.{leads-plain}
use Rattle.records.proofs.walks.plain.Goals as goal

-- one stretch more, with its last field noted
stretch-on : {t : Table} {p : Payload} {room from end i to at made : ℕ} {e : Element} {s : Progress} {out mid new : List ℕ} {r : Stretch} {noted : List ℕ} (cs : List ℕ)
    → Ran t p room e from end s out i (progress_at at made cs) mid → Runs t p room e i to at made mid r new → noted ≡ noted_by_lem t e (to - 1) r.last cs → to ≤ end
    → Ran t p room e from end s out r.field (progress_at r.at r.made noted) new
stretch-on cs g h q l = ran_then _ _ _ _ _ _ _ _ _ _ _ _ _ _ _ g (rw q (h.all cs)) l

pub loop-i-init : goal.loop-i-init
loop-i-init c = (c.requires.1.1, ran-none (table_of c.args.words.now) (payload_of c.args.s.now) c.args.room None c.args.from c.args.end c.args.p c.args.out.now c.requires.0)

pub returns-then-i-to : goal.returns-then-i-to
returns-then-i-to c =
    rw c.walk_at.ensures
    (leads-plain _ _ _ c.args.from c.args.end _ _ _ _ _ c.requires.1.0 (stretch-on _ c.loop-i.invariant.1 c.run-ran.ensures c.noted_by-noted.ensures c.quiet_until-to.ensures.1.0))

pub loop-i-preserved : goal.loop-i-preserved
loop-i-preserved c =
    let x = stretch-on _ c.loop-i.invariant.1 c.run-ran.ensures c.noted_by-noted.ensures c.quiet_until-to.ensures.1.0 in
    (roomy-on c.args.room c.args.out.now _ _ _ c.requires.1.1 x.puts, x)

pub returns : goal.returns
returns c = rw c.walk_at-2.ensures (leads-plain _ _ _ c.args.from c.args.end _ _ _ _ _ c.requires.1.0 c.loop-i.invariant.1)
