use Rattle.std.proofs.Common.{◌≡◌, ◌+◌, rules, arith}
use Rattle.text.proofs.Sheets.{nothing, more, placed, put-room}
use Rattle.text.proofs.pages.copy_at.Goals as goal

pub loop-i-init : goal.loop-i-init
loop-i-init c =
    let e : c.args.at ≡ c.args.at + 0 = omega arith in
    (search rules, placed e (nothing c.args.page.now c.args.at))

pub loop-i-preserved : goal.loop-i-preserved
loop-i-preserved c =
    let e : c.args.at + c.loop-i.i + 1 ≡ c.args.at + (c.loop-i.i + 1) = omega arith in
    (search rules, placed e (more c.args.text.now c.loop-i.i (search rules) c.loop-i.invariant.1 (put-room _ _ _ (omega arith))))
