use Rattle.std.proofs.Common.{ap, ◌∙◌}
use Rattle.text.proofs.Putting.{same}
use Rattle.compose.proofs.Words.{spelled}
use Rattle.compose.proofs.entries.put_word.Goals as goal

pub returns : goal.returns
returns c = same (c.to_le_bytes.ensures ∙ spelled c.args.w) c.put_text.ensures
