use Rattle.text.proofs.Putting.{on-page}
use Rattle.text.proofs.pages.Page.put_text.Goals as goal

pub returns : goal.returns
returns c = on-page c.args.self.now c.put_text_at-self.ensures
