use Rattle.std.proofs.Common.{rules}
use Rattle.text.proofs.Sheets.{nothing, more}
use Rattle.text.proofs.pages.put_text_at.Goals as goal

pub loop-b-init : goal.loop-b-init
loop-b-init c = nothing c.args.page.now c.args.at

pub loop-b-preserved : goal.loop-b-preserved
loop-b-preserved c = more c.args.text.now c.loop-b.b-index (search rules) c.loop-b.invariant c.put_at-to.ensures
