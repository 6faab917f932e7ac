-- What the program prints, over any list of calls, whatever their chunks and their pages. Assumes nothing.
use mathlib.Core.Path.{◌≡◌, refl}
use mathlib.Core.List.{[], ◌∷◌, ◌++◌}
use Prim.Native.Nat.{ℕ, ◌≤◌}
use native.Mathlib.Omega.{arith}
use Rattle.text.specs.Refusals.{malformedText}
use Rattle.columns.specs.Parts.{marksIn}
use Rattle.lines.specs.Machine.{newline}
use Rattle.lines.specs.Program.{Program}
use Rattle.lines.proofs.Programs.{program}
use Rattle.readcalls.specs.Answers.{answered, lineMax}
use Rattle.readcalls.proofs.Sizes.{answer-size}

-- the bytes of a page
abbrev pub pageSize : ℕ
pageSize = 524288

pub stream : Program answered lineMax pageSize
stream = program answered lineMax pageSize (λ line. omega (arith, answer-size line))

-- an empty line, and so one that is too long, is F 14
pub empty-line : answered [] ≡ malformedText ++ newline ∷ []
unfolding answered marksIn
empty-line = refl
