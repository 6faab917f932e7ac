-- The bytes go after those before them, if they are bytes and there is room.
use Rattle.compose.proofs.Letters.{text-good, text-bad}
use Rattle.compose.proofs.entries.text.Goals as goal

pub returns-in_err-len : goal.returns-in_err-len
returns-in_err-len c = text-bad c.args.used c.args.lent.now c.requires c.args.head c.args.s.now c.pairs.ensures c.in_err-len.was c.from_residual.ensures

pub returns : goal.returns
returns c = text-good c.args.used c.args.lent.now c.requires c.args.head c.args.s.now c.pairs.ensures c.in_ok-len.was
