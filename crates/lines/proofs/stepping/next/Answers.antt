use mathlib.Core.Path.{◌≡◌}
use mathlib.Core.Bool.{false}
use borrow.Author.Tests.{le-ltb}
use Prim.Native.Nat.{◌≤◌}
use native.Mathlib.Omega.{arith}
use lib.ListN.{length}
use Rattle.lines.specs.Steps.{stays}
use Rattle.lines.proofs.Taking.{neither, fits_in}
use Rattle.lines.proofs.stepping.next.Goals as goal

pub overflow_add-end : goal.overflow_add-end
overflow_add-end c =
    let fits : c.args.p.taken ≤ length c.args.input.now = c.if-input-from.false in
    let free : stays c.args.p c.args.input.now ≡ false = neither _ _ c.if-p.false (le-ltb (length c.args.input.now) c.args.p.taken fits) in
    omega (arith, fits_in c.args.p c.args.line.now c.args.input.now c.feed-fed.result free c.feed-fed.ensures.0 fits, c.well_formed)
