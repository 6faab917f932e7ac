-- By whether the line is a table in words.
use borrow.Author.Rules.{rules}
use mathlib.Core.Path.{ap}
use Rattle.text.proofs.Putting.{then, same}
use Rattle.tablecalls.specs.Answers.{checked_text}
use Rattle.tablecalls.proofs.Words.{words-within, malformed, checked}
use Rattle.tablecalls.proofs.replies.TablesAnswers.put_answer.Goals as goal

pub returns-in_default : goal.returns-in_default
returns-in_default c = same (malformed _ _ c.words.ensures (search rules) c.in_default.is) c.put_text.ensures

pub slice_bounds-check-end : goal.slice_bounds-check-end
slice_bounds-check-end c = words-within _ _ c.words.ensures (search rules) c.in-Some.is

pub returns : goal.returns
returns c =
    same (checked _ _ c.words.ensures (search rules) c.in-Some.is)
    (then (same (ap checked_text c.check.ensures) c.put_checked.ensures) c.put.ensures)
