-- What came of the encode, and the payload that it left.
use mathlib.Core.Path.{ap, ap₂}
use mathlib.Core.List.{List, [], ◌∷◌, ◌++◌}
use Prim.Native.Nat.{ℕ}
use Rattle.text.proofs.Putting.{then, same}
use Rattle.lines.specs.Machine.{newline}
use Rattle.compose.specs.Answers.{made_text, frame_line}
use Rattle.compose.proofs.encodes.put_frame.Goals as goal

pub returns : goal.returns
unfolding frame_line
returns c = same (ap (λ (x : List ℕ). x ++ newline ∷ []) (ap₂ (made_text c.args.pgn) c.encode-encoded.ensures.1 c.encode-encoded.ensures.0)) (then c.put_made.ensures c.put.ensures)
