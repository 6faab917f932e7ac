-- A, then the quick way, then why not.
use mathlib.Core.Path.{sym, ◌∙◌}
use Rattle.tables.specs.Table.{table_of}
use Rattle.tables.proofs.Chain.{sizes-kept, sizes-broken}
use Rattle.tables.proofs.checking.check.Goals as goal

pub returns-then-not-sizes_fit : goal.returns-then-not-sizes_fit
returns-then-not-sizes_fit c =
    let t = table_of c.args.words.now in
    sym (sizes-broken t (sym c.sizes_fit.ensures ∙ c.if-not-sizes_fit.true))

pub returns-then-is_clean : goal.returns-then-is_clean
returns-then-is_clean c =
    let t = table_of c.args.words.now in
    sym (sizes-kept t (sym c.sizes_fit.ensures ∙ c.if-not-sizes_fit.false) ∙ c.is_clean.ensures c.if-is_clean.true)

pub returns : goal.returns
returns c =
    let t = table_of c.args.words.now in
    c.explain.ensures ∙ sym (sizes-kept t (sym c.sizes_fit.ensures ∙ c.if-not-sizes_fit.false))
