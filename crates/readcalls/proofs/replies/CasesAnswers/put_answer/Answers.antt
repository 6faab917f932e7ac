-- By what the fields were read as.
use borrow.Author.Rules.{rules}
use mathlib.Core.Logic.{⊎_elim}
use mathlib.Core.Path.{◌≡◌, sym, ◌∙◌}
use mathlib.Core.List.{List}
use Prim.Native.Nat.{ℕ, ◌<◌}
use lib.ListN.{replicate}
use Rattle.std.specs.Prelude.{Option}
use Rattle.text.proofs.Putting.{same}
use Rattle.columns.specs.Parts.{parts_of}
use Rattle.columns.specs.Runs.{filled, bytes_in_lem, is_bytes, bytes_of, values_of, words_in, is_words}
use Rattle.columns.proofs.Stored.{Stored, stored-words, stored_bytes}
use Rattle.readcalls.specs.Answers.{words_max, comma, payload_most, padding_max}
use Rattle.readcalls.proofs.Fields.{no_room, no_padding, padding-large, no_words, no_bytes, spaced-other, no-case, by-case}
use Rattle.readcalls.proofs.replies.CasesAnswers.put_answer.Goals.{in_default-via-in-Some+in-Some+in-Some+in_default, in_default-via-in-Some+in-Some+in_default, in_default-via-in-Some+in_default, in_default-via-in_default}
use Rattle.readcalls.proofs.replies.CasesAnswers.put_answer.Goals as goal

-- the words that were read from a field
table : {f g new : List ℕ} {r : Option ℕ} → f ≡ g → filled r new ≡ words_in comma f (replicate words_max 0) → Stored (is_words comma words_max g) (values_of (parts_of comma g)) r new
table e h = stored-words _ words_max (search rules) e comma h

-- the bytes that were read from one
payload : {f g new : List ℕ} {r : Option ℕ} → f ≡ g → filled r new ≡ bytes_in_lem f (replicate payload_most 0) → Stored (is_bytes payload_most g) (bytes_of g) r new
payload e h = stored_bytes _ payload_most (search rules) e h

pub returns-in_default : goal.returns-in_default
returns-in_default c =
    same
    (no-case c.args.line.now
    (elim c.in_default.branch [
      | in_default-via-in-Some+in-Some+in-Some+in_default w ↦ no_bytes c.args.line.now ((payload c.word-2.ensures c.bytes.ensures).none w.in_default.is-3)
      | in_default-via-in-Some+in-Some+in_default w ↦ no_words c.args.line.now ((table c.word.ensures c.words.ensures).none w.in_default.is-2)
      | in_default-via-in-Some+in_default w ↦ no_padding c.args.line.now (sym c.number-2.ensures ∙ w.in_default.is-1)
      | in_default-via-in_default w ↦ no_room c.args.line.now (sym c.number.ensures ∙ w.in_default.is-0)
    ]))
    c.put_text.ensures

pub returns-then-marks-ne3 : goal.returns-then-marks-ne3
returns-then-marks-ne3 c =
    same
    (no-case c.args.line.now
    (⊎_elim (λ (h : c.marks.result ≡ 3 → ⊥). spaced-other c.args.line.now c.marks.ensures h)
    (λ (h : (c.marks.result ≡ 3) × (padding_max < c.in-Some-Some-Some-Some.padding)). padding-large c.args.line.now (sym c.number-2.ensures ∙ c.in-Some-Some-Some-Some.is-1) h.1)
    c.then-marks-ne3.either))
    c.put_text-then-marks-ne3.ensures

pub slice_bounds-put_replay-end : goal.slice_bounds-put_replay-end
slice_bounds-put_replay-end c = (table c.word.ensures c.words.ensures).within c.in-Some-Some-Some-Some.is-2

pub slice_bounds-put_replay-end-2 : goal.slice_bounds-put_replay-end-2
slice_bounds-put_replay-end-2 c = (payload c.word-2.ensures c.bytes.ensures).within c.in-Some-Some-Some-Some.is-3

pub returns : goal.returns
returns c =
    let words = table c.word.ensures c.words.ensures in
    let bytes = payload c.word-2.ensures c.bytes.ensures in
    same
    (by-case c.args.line.now c.marks.ensures c.if-marks-ne3.false (sym c.number.ensures ∙ c.in-Some-Some-Some-Some.is-0) (sym c.number-2.ensures ∙ c.in-Some-Some-Some-Some.is-1)
    c.if-padding-gt-PADDING_MAX.false (words.some c.in-Some-Some-Some-Some.is-2) (bytes.some c.in-Some-Some-Some-Some.is-3)
    (words.first c.in-Some-Some-Some-Some.is-2) (bytes.first c.in-Some-Some-Some-Some.is-3) c.place.ensures c.place-2.ensures)
    c.put_replay.ensures
