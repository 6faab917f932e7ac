-- Byte by byte, the program keeps what `feed` leaves. Assumes nothing.
use mathlib.Core.Path.{◌≡◌, refl}
use mathlib.Core.List.{List, [], ◌∷◌}
use Prim.Native.Nat.{ℕ}
use Rattle.hexadecimal.specs.Digits.{value_of}
use Rattle.lines.specs.Machine.{feds}
use Rattle.frames.specs.declared.Line.{Line}
use Rattle.frames.specs.Digest.{fed_by, kept_by, line_after, buffer_after}
use Rattle.printing.specs.Answers.{kept, samopute}

pub kept-fed : (l : Line) (buffer bs : List ℕ) → feds samopute (kept l buffer) bs ≡ kept (line_after l bs) (buffer_after l buffer bs)
unfolding feds line_after buffer_after
kept-fed l buffer [] = refl
kept-fed l buffer (b ∷ bs) = kept-fed (fed_by l (value_of b)) (kept_by l buffer (value_of b)) bs
