-- Each store is the word's next byte.
use Rattle.records.proofs.Putting.{eight}
use Rattle.records.proofs.layout.put_word.Goals as goal

pub returns : goal.returns
returns c =
    eight c.args.out.now c.args.at c.args.w _ _ _ _ _ _ _ _
    c.low.ensures
    c.low-2.ensures
    c.low-3.ensures
    c.low-4.ensures
    c.low-5.ensures
    c.low-6.ensures
    c.low-7.ensures
    c.low-8.ensures
