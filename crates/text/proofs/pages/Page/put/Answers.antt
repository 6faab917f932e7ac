use Rattle.text.proofs.Putting.{on-page}
use Rattle.text.proofs.pages.Page.put.Goals as goal

pub returns : goal.returns
returns c = on-page c.args.self.now c.put_at-self.ensures
