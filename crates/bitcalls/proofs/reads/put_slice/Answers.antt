-- By the answer of the read.
use mathlib.Core.Path.{sym, ap, ◌∙◌}
use Rattle.text.proofs.Putting.{then, same}
use Rattle.bitcalls.specs.Text.{part_text, slice_text}
use Rattle.bitcalls.proofs.reads.put_slice.Goals as goal

pub returns-in-Ok : goal.returns-in-Ok
returns-in-Ok c =
    same (sym (ap (slice_text _) c.in-Ok.is) ∙ ap (slice_text _) c.read_slice.ensures)
    (then c.put_ok.ensures (same (ap part_text c.bytes.ensures) c.put_part.ensures))
