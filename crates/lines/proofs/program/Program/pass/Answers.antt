-- What is left of the call comes to the call.
use Rattle.std.proofs.Common.{arith, refl, sym}
use Rattle.lines.specs.Machine.{pass_from}
use Rattle.lines.proofs.Chunk.{few, chunk-done, line-waits, line-answered, at-end, answer-fits}
use Rattle.lines.proofs.program.Program.pass.Goals.{then-waits+else-out-to, else-waits}
use Rattle.lines.proofs.program.Program.pass.Goals as goal

pub loop-taken-init : goal.loop-taken-init
loop-taken-init g c =
    let m = g.Self.Program.machine in (
      omega arith,
      elim c.if-waits.branch [
        | then-waits+else-out-to w ↦
            rw (w.if-waits.true, w.self-is, w.out-is, w.to-is, w.begin_line.ensures, w.put_answer-to.ensures.kept)
            (sym (answer-fits m _ 0 _ _ _ _ (pass_from m _ c.args.input.now 0) w.put_answer-to.ensures.puts w.if-out-to.false))
        | else-waits w ↦ rw (w.if-waits.false, w.self-is, w.out-is, w.to-is) refl
      ],
    )

pub overflow_add-end : goal.overflow_add-end
overflow_add-end g c = omega (arith, few g.Self.Program.machine c.args.input.now _ _ _ _ c.feed.ensures.taken c.feed.ensures.kept c.loop-taken.invariant.0, c.well_formed)

pub returns-then-input-end : goal.returns-then-input-end
returns-then-input-end g c =
    chunk-done g.Self.Program.machine c.args.input.now _ _ _ _ c.feed.ensures.taken c.feed.ensures.kept _ _ _ c.loop-taken.invariant.1 c.loop-taken.invariant.0 c.if-input-end.true

pub returns-then-out-next : goal.returns-then-out-next
returns-then-out-next g c =
    rw c.put_answer-next.ensures.kept
    (line-waits g.Self.Program.machine c.args.input.now _ _ _ _ c.feed.ensures.taken c.feed.ensures.kept _ _ _ c.loop-taken.invariant.1 (omega (arith, c.if-input-end.false)) _ _ c.put_answer-next.ensures.puts (omega (arith, c.if-out-next.true)))

pub loop-taken-preserved : goal.loop-taken-preserved
loop-taken-preserved g c =
    let way = line-answered g.Self.Program.machine c.args.input.now _ _ _ _ c.feed.ensures.taken c.feed.ensures.kept _ _ _ c.loop-taken.invariant.1 (omega (arith, c.if-input-end.false)) _ _ c.put_answer-next.ensures.puts (omega (arith, c.if-out-next.false)) in
    (omega (arith, c.if-input-end.false), rw (c.begin_line-in-loop-taken.ensures, c.put_answer-next.ensures.kept) way)

pub returns : goal.returns
returns g c = at-end g.Self.Program.machine c.args.input.now _ _ _ _ _ c.loop-taken.invariant.1 (omega (arith, c.loop-taken-test.false, c.loop-taken.invariant.0))
