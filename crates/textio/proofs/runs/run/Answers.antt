-- A turn goes on the way, by `handed` and `stored`, until there is no more to do, or something fails.
use Rattle.std.proofs.Common.{refl, sym, ap, ◌∙◌, rules, subst, Ok, Err, Some, None}
use Rattle.textio.specs.Run.{Prints}
use Rattle.textio.proofs.Turns.{handed, stored, broken, finished, begins, begun, if_known, failed, ended}
use Rattle.textio.proofs.runs.run.Goals as goal

pub loop-init : goal.loop-init
loop-init g c = (refl, (refl, λ bytes e. begins g.P.Program.machine (g.P.Program.kept c.args.program.now) _ _ bytes _ _ c.start-at.ensures e))

pub returns-in_err-chunk : goal.returns-in_err-chunk
returns-in_err-chunk g c = if_known _ _ (λ bytes e. failed _ _ _ c.from_residual.ensures.0 (begun g.P.Program.machine _ _ (c.loop.invariant.1.1 bytes e)))

pub returns-in_default : goal.returns-in_default
returns-in_default g c =
    let f = c.fetch.ensures in
    let r = c.in_ok-chunk.was ∙ ap Ok c.in_default.is in
    if_known _ _ (λ bytes e. ended _ _ _ (finished g.P.Program.machine _ _ _ _ _ _ _ (c.loop.invariant.1.1 bytes e) _ _ _ f.fetches f.taken r (f.over r)))

pub returns-in_err-at : goal.returns-in_err-at
returns-in_err-at g c =
    let m = g.P.Program.machine in
    let f = c.fetch.ensures in
    let r = c.in_ok-chunk.was ∙ ap Ok c.in-Some.is in
    if_known _ _ (λ bytes e.
    let h = handed m _ _ _ _ _ _ _ (c.loop.invariant.1.1 bytes e) _ _ _ f.fetches f.taken _ r (search rules) (search rules) f.at_end in
    failed _ _ _ c.from_residual-in_err-at.ensures.0 (broken m _ _ _ _ _ _ _ h _ (search rules) _ _ _ _ _ c.pass-p.ensures _ c.store.ensures.begun))

pub loop-preserved : goal.loop-preserved
loop-preserved g c =
    let m = g.P.Program.machine in
    let f = c.fetch.ensures in
    let r = c.in_ok-chunk.was ∙ ap Ok c.in-Some.is in (
      search rules,
      (
        search rules,
        λ bytes e.
            let h = handed m _ _ _ _ _ _ _ (c.loop.invariant.1.1 bytes e) _ _ _ f.fetches f.taken _ r (search rules) (search rules) f.at_end in
            stored m _ _ _ _ _ _ _ h _ (search rules) _ _ _ _ _ c.pass-p.ensures _ _ (search rules) (search rules),
      ),
    )

pub returns : goal.returns
returns g c = if_known _ _ (λ bytes e. failed _ _ _ refl (begun g.P.Program.machine _ _ (c.loop.invariant.1.1 bytes e)))
