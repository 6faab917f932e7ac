-- Some set holds it, or none does.
use Rattle.std.proofs.Common.{◌≡◌, true, false, arith, rules, tests}
use Rattle.std.proofs.lemmas.Iterator.{cases_from_any, YieldsList-from_range}
use Rattle.tables.specs.Table.{table_of}
use Rattle.tables.specs.Rules.{in_set}
use Rattle.tables.proofs.Searches.{in-some}
use Rattle.tables.proofs.sets.in_sets.Goals as goal

pub returns : goal.returns
returns c =
    let t = table_of c.args.words.now in
    in-some t c.args.i c.args.m c.any.result
    (cases_from_any _ _ c.any.result (λ k. in_set t c.args.i k ≡ true) (λ k. in_set t c.args.i k ≡ false) c.any.ensures.ran (YieldsList-from_range 0 c.args.m c.args.m (cc) (omega arith)) (λ x q k. search (rules, tests)) (λ x q k. search (rules, tests)))
