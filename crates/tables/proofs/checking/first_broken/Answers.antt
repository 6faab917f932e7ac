-- The first that breaks the rule is the one that the search finds.
use Rattle.std.proofs.Common.{◌≡◌, true, false, rules, tests}
use Rattle.std.proofs.lemmas.Iterator.{first_from_Range}
use Rattle.tables.specs.Table.{table_of}
use Rattle.tables.specs.Check.{keeps}
use Rattle.tables.proofs.Searches.{found-first}
use Rattle.tables.proofs.checking.first_broken.Goals as goal

pub returns : goal.returns
returns c =
    let t = table_of c.args.words.now in
    found-first c.args.rule t c.args.n c.find.result
    (first_from_Range _ _ _ _ (λ i. keeps c.args.rule t i ≡ false) (λ i. keeps c.args.rule t i ≡ true) c.find.ensures.ran (λ x q k. search (rules, tests)) (λ x q k. search (rules, tests)))
