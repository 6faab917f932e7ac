use Rattle.text.proofs.Sheets.{put-room, put-lost}
use Rattle.text.proofs.pages.put_at.Goals as goal

pub returns-then-at-page : goal.returns-then-at-page
returns-then-at-page c = put-room c.args.page.now c.args.at c.args.b c.if-at-page.true

pub returns : goal.returns
returns c = put-lost c.args.page.now c.args.at c.args.b c.if-at-page.false
