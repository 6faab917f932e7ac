-- What the program prints, over any list of calls, whatever their chunks and their pages. Assumes nothing.
use mathlib.Core.Path.{◌≡◌, ◌∙◌}
use mathlib.Core.Bool.{Bool, true, false}
use mathlib.Core.List.{List, [], ◌∷◌}
use Prim.Native.Nat.{ℕ, ◌≤◌}
use native.Mathlib.Omega.{arith}
use lib.ListN.{length, length-append}
use Rattle.std.specs.Prelude.{Ok, Err}
use Rattle.bits.specs.Bits.{pick}
use Rattle.text.specs.Digits.{spaced}
use Rattle.text.specs.Refusals.{table_refused, carried_texts, malformed_text}
use Rattle.text.proofs.Sizes.{spaced-size}
use Rattle.columns.specs.Parts.{space, parts_of}
use Rattle.columns.specs.Runs.{values_of}
use Rattle.lines.specs.Machine.{newline, closed}
use Rattle.lines.specs.Calls.{Call, Sound, put, taken, waits_after}
use Rattle.lines.specs.Held.{nothing_held, store, held, capped}
use Rattle.lines.specs.Program.{Program}
use Rattle.lines.proofs.Alike.{same_text}
use Rattle.lines.proofs.Programs.{program}
use Rattle.tables.specs.Table.{table_of}
use Rattle.tables.specs.Check.{Checked, check_of, letter_of}
use Rattle.tablecalls.specs.Answers.{checked_text, is_table, answered, printed, line_max}
use Rattle.tablecalls.proofs.Short.{uncapped}

-- the bytes of a page
abbrev pub page_size : ℕ
page_size = 65536

-- no answer has more bytes
abbrev pub answer_max : ℕ
answer_max = 64

checked-size : (x : Checked) → length (checked_text x) ≤ 48
unfolding carried_texts
checked-size (Ok tt) = omega arith
checked-size (Err b) =
    let number = length-append (spaced table_refused) (carried_texts true (letter_of b.rule ∷ b.index ∷ [])) in
    let last = length-append (spaced b.index) [] in
    omega (arith, spaced-size table_refused, spaced-size b.index)

text-size : (t : Bool) (x : Checked) → length (pick t (checked_text x) malformed_text) ≤ 48
text-size true x = checked-size x
text-size false x = omega arith

pub answer-size : (line : List ℕ) → length (answered line) ≤ answer_max
unfolding answered
answer-size line =
    let x = check_of (table_of (values_of (parts_of space line))) in
    omega (arith, length-append (pick (is_table line) (checked_text x) malformed_text) (newline ∷ []), text-size (is_table line) x)

pub stream : Program answered line_max page_size
stream = program answered line_max page_size (λ line. omega (arith, answer-size line))

-- what calls put that take all of an input, until no line waits: the answer to each line, in order, however long the line
pub prints : (buffer : List ℕ) → length buffer ≡ line_max → (cs : List Call) (input : List ℕ) → Sound cs
    → taken (held answered) (store nothing_held buffer) false cs ≡ closed input → waits_after (held answered) (store nothing_held buffer) false cs ≡ false
    → put (held answered) (store nothing_held buffer) false cs ≡ printed input
prints buffer size cs input s e w = stream.prints buffer size cs input s e w ∙ same_text (capped line_max answered) answered uncapped input
