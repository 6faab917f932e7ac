-- By whether WORDS and SIZE are good.
use mathlib.Core.Path.{refl, sym, ◌∙◌}
use borrow.Author.Rules.{rules}
use Rattle.text.proofs.Putting.{same}
use Rattle.columns.proofs.Stored.{stored-words}
use Rattle.compose.specs.Answers.{comma}
use Rattle.compose.proofs.Ordering.{no_words, no_size, size-large, by-table}
use Rattle.compose.proofs.encodes.put_by_table.Goals.{in_default-via-in-Some+in_default, in_default-via-in_default}
use Rattle.compose.proofs.encodes.put_by_table.Goals as goal

pub returns-in_default : goal.returns-in_default
returns-in_default c =
    same
    (elim c.in_default.branch [
      | in_default-via-in-Some+in_default w ↦ no_size c.args.table.now c.args.size.now c.args.values.now c.args.lent.now (sym c.decimal.ensures ∙ w.in_default.is-1)
      | in_default-via-in_default w ↦ no_words c.args.table.now c.args.size.now c.args.values.now c.args.lent.now (stored-words _ 200 (search rules) refl comma c.words.ensures) w.in_default.is-0
    ])
    c.put_malformed.ensures

pub returns-then-count-gt-SIZE_MAX : goal.returns-then-count-gt-SIZE_MAX
returns-then-count-gt-SIZE_MAX c =
    same
    (size-large c.args.table.now c.args.size.now c.args.values.now c.args.lent.now (sym c.decimal.ensures ∙ c.in-Some-Some.is-1) c.if-count-gt-SIZE_MAX.true)
    c.put_malformed-then-count-gt-SIZE_MAX.ensures

pub slice_bounds-put_sized-end : goal.slice_bounds-put_sized-end
slice_bounds-put_sized-end c = (stored-words _ 200 (search rules) refl comma c.words.ensures).within c.in-Some-Some.is-0

pub returns : goal.returns
returns c =
    same
    (by-table c.args.table.now c.args.size.now c.args.values.now c.args.lent.now (stored-words _ 200 (search rules) refl comma c.words.ensures)
    c.in-Some-Some.is-0 (sym c.decimal.ensures ∙ c.in-Some-Some.is-1) c.if-count-gt-SIZE_MAX.false)
    c.put_sized.ensures
