-- The arm knows the frame.
use mathlib.Core.Path.{◌≡◌, sym, ap, ◌∙◌}
use mathlib.Core.List.{List}
use Prim.Native.Nat.{ℕ}
use Rattle.std.specs.Prelude.{Result}
use Rattle.text.proofs.Putting.{then, same}
use Rattle.frames.specs.declared.Frame.{Frame}
use Rattle.frames.specs.declared.FrameRefusal.{FrameRefusal}
use Rattle.frames.specs.declared.Line.{Line}
use Rattle.frames.specs.Frames.{frame_by}
use Rattle.printing.specs.Answers.{answer_by}
use Rattle.printing.proofs.answers.put_lines.Goals as goal

told : (l : Line) (buffer : List ℕ) {f g : Result Frame FrameRefusal} → f ≡ g → f ≡ frame_by l → answer_by g buffer ≡ answer_by (frame_by l) buffer
told l buffer e q = ap (λ (x : Result Frame FrameRefusal). answer_by x buffer) (sym e ∙ q)

pub returns-in-Ok : goal.returns-in-Ok
returns-in-Ok c = same (told c.args.line c.args.buffer.now c.in-Ok.is c.frame_of.ensures) (then c.put_frame.ensures c.put_payload.ensures)
