-- What the program prints, over any list of calls, whatever their chunks and their pages. Assumes nothing.
use mathlib.Core.Path.{◌≡◌, refl}
use mathlib.Core.List.{[], ◌∷◌, ◌++◌}
use Prim.Native.Nat.{ℕ}
use native.Mathlib.Omega.{arith}
use Rattle.text.specs.Refusals.{malformed_text}
use Rattle.columns.specs.Parts.{parts_of}
use Rattle.columns.specs.Names.{same, place_in}
use Rattle.columns.specs.Numbers.{number_in}
use Rattle.lines.specs.Machine.{newline}
use Rattle.lines.specs.Program.{Program}
use Rattle.lines.proofs.Programs.{program}
use Rattle.numbercalls.specs.Fields.{placed, numbered, named, kind_in, field_in}
use Rattle.numbercalls.specs.Answers.{answered, line_max}
use Rattle.numbercalls.proofs.Sizes.{answer-size}

-- the bytes of a page
abbrev pub page_size : ℕ
page_size = 65536

pub stream : Program answered line_max page_size
stream = program answered line_max page_size (λ line. omega (arith, answer-size line))

-- an empty line, and so one that is too long, is F 14
pub empty-line : answered [] ≡ malformed_text ++ newline ∷ []
unfolding answered parts_of number_in place_in same placed numbered named kind_in field_in
empty-line = refl
