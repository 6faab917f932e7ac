-- By what stands around it.
use mathlib.Core.Path.{sym, ap, ◌∙◌}
use Prim.Native.Nat.{◌*◌}
use Rattle.weighing.specs.declared.Lead.{Lead}
use Rattle.writing.specs.Ink.{bytes_by, poured}
use Rattle.writing.proofs.Pours.{poured-one}
use Rattle.writing.proofs.ink.put_text.Goals as goal

pub returns-in-Empty : goal.returns-in-Empty
returns-in-Empty c = c.put_byte.ensures ∙ poured-one c.args.buffer.now c.args.at 1 ∙ sym (ap (λ (l : Lead). poured c.args.buffer.now c.args.at (bytes_by l (8 * c.args.size) c.args.text.now)) c.in-Empty.is)
