-- Word by word.
use mathlib.Core.List.{[], ◌∷◌}
use Rattle.records.proofs.Putting.{put-more, put_last}
use Rattle.records.proofs.readings.put_record.Goals as goal

pub returns : goal.returns
returns c =
    put-more (c.args.element ∷ c.args.start ∷ c.args.bits ∷ c.args.tag ∷ c.args.raw ∷ c.args.value ∷ c.args.len ∷ []) _ _ _ c.args.at c.args.field c.put_word.ensures
    (put-more (c.args.start ∷ c.args.bits ∷ c.args.tag ∷ c.args.raw ∷ c.args.value ∷ c.args.len ∷ []) _ _ _ _ c.args.element c.put_word-2.ensures
    (put-more (c.args.bits ∷ c.args.tag ∷ c.args.raw ∷ c.args.value ∷ c.args.len ∷ []) _ _ _ _ c.args.start c.put_word-3.ensures
    (put-more (c.args.tag ∷ c.args.raw ∷ c.args.value ∷ c.args.len ∷ []) _ _ _ _ c.args.bits c.put_word-4.ensures
    (put-more (c.args.raw ∷ c.args.value ∷ c.args.len ∷ []) _ _ _ _ c.args.tag c.put_word-5.ensures
    (put-more (c.args.value ∷ c.args.len ∷ []) _ _ _ _ c.args.raw c.put_word-6.ensures
    (put-more (c.args.len ∷ []) _ _ _ _ c.args.value c.put_word-7.ensures
    (put_last _ _ _ c.args.len c.put_word-8.ensures)))))))
