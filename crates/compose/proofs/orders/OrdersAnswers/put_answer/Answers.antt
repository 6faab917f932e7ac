-- By whether the values are listed.
use borrow.Author.Rules.{rules}
use Rattle.text.proofs.Putting.{same}
use Rattle.compose.proofs.Ordering.{not_listed, ordered}
use Rattle.compose.proofs.orders.OrdersAnswers.put_answer.Goals as goal

pub returns-in_default : goal.returns-in_default
returns-in_default c =
    same
    (not_listed c.args.line.now c.values_from.result c.list_values.new.values c.list_values.new.lent c.values_from.ensures c.list_values.result (search rules) (search rules)
    c.list_values.ensures c.in_default.is)
    c.put_malformed.ensures

pub returns : goal.returns
returns c =
    same
    (ordered c.args.line.now c.values_from.result c.list_values.new.values c.list_values.new.lent c.values_from.ensures c.list_values.result (search rules) (search rules)
    c.list_values.ensures c.in-Some.is c.part.ensures c.part-2.ensures)
    c.put_order.ensures
