-- The first bytes of the largest buffer are a buffer of so many, before the encode and after it.
use Rattle.text.proofs.Putting.{then, same}
use Rattle.compose.proofs.Ordering.{sized}
use Rattle.compose.proofs.encodes.put_sized.Goals as goal

pub returns : goal.returns
returns c =
    same (sized c.args.words.now c.args.values.now c.args.lent.now c.args.size c.requires c.encode-encoded.ensures _)
    (then c.put_outcome.ensures c.put_buffer.ensures)
