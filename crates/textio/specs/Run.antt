-- What a run of a program writes, call after call, where the bytes of its input and of its output are known.
use Rattle.std.specs.Prelude.{◌≡◌, ℕ, ◌-◌, List, [], ◌∷◌, ◌++◌, Bool, take, drop, Option, Result, OnOk}
use Rattle.std.specs.Io.KnownBytes.{Appends}
use Rattle.bits.specs.Bits.{pick}
use Rattle.lines.specs.Machine.{newline, is_open}
use Rattle.textio.specs.declared.Io.{Io}
use Rattle.textio.specs.Io.{Begins}

-- a text is written: all of it, or a beginning of it where something has failed
pub record Prints {E : Type 0} (r : Result (Unit {0}) E) (old new : Option (List ℕ)) (text : List ℕ) : Type 0 where
  pub begun : Begins old new text
  pub whole : OnOk r (Appends old new text)

-- the rest of a chunk, of which all before `from` is taken
abbrev pub rest_of : Io → List ℕ → List ℕ
rest_of at chunk = take (at.to - at.from) (drop at.from chunk)

-- what is not read yet, with the newline that its last line may lack
abbrev pub unread : Io → List ℕ → List ℕ
unread at left = pick at.ended [] (left ++ pick (is_open at.inside left) (newline ∷ []) [])

-- all that is still to come in calls
abbrev pub coming : Io → List ℕ → List ℕ → List ℕ
coming at chunk left = rest_of at chunk ++ unread at left
