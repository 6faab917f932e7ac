-- By what the read says.
use mathlib.Core.Path.{sym, ap, ◌∙◌}
use Rattle.numbers.specs.declared.NumberWords.{NumberWords}
use Rattle.tables.specs.Table.{table_of}
use Rattle.records.specs.Layout.{laid, number_record}
use Rattle.records.specs.Puts.{puts}
use Rattle.records.specs.Stretches.{place_at_lem}
use Rattle.records.proofs.Quickly.{simple-of}
use Rattle.records.proofs.runs.simple.Goals as goal

pub returns-in-Ok : goal.returns-in-Ok
returns-in-Ok c =
    let q = c.put_words.ensures
    ∙ ap (λ (n : NumberWords). puts c.args.out.now (place_at_lem c.args.made) (laid (number_record c.args.i c.args.e c.args.at c.args.width c.in-Ok.read.value n))) c.simple_words-n.ensures in (
      simple-of (table_of c.args.words.now) c.args.s.now c.args.room c.args.i c.args.e c.args.at c.args.made c.args.out.now c.args.width c.requires.0 _
          (sym c.read_u64.ensures ∙ c.in-Ok.is) _ c.if-made-room.true q,
      c.if-made-room.true,
    )
