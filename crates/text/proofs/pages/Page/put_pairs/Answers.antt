use Rattle.text.proofs.Putting.{on-page}
use Rattle.text.proofs.pages.Page.put_pairs.Goals as goal

pub returns : goal.returns
returns c = on-page c.args.self.now c.put_pairs_at-self.ensures
