-- Each of them was asked.
use Rattle.std.proofs.Common.{arith, rules, tests}
use Rattle.std.specs.Bool.{⊤}
use Rattle.std.proofs.lemmas.Iterator.{cases_from_all, YieldsList-from_range}
use Rattle.tables.specs.Table.{table_of}
use Rattle.tables.specs.Check.{KeptSet}
use Rattle.tables.proofs.Searches.{each-below}
use Rattle.tables.proofs.kept.sets_are_kept.Goals as goal

pub returns : goal.returns
returns c =
    each-below _ (λ _. ⊤) c.args.m _
    (cases_from_all _ _ c.all.result (KeptSet (table_of c.args.words.now)) (λ _. ⊤) c.all.ensures.ran (YieldsList-from_range 0 c.args.m c.args.m (cc) (omega arith)) (λ x q k. search (rules, tests)) (λ x q k. search (rules, tests)))
