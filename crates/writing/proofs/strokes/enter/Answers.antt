-- By the count.
use Rattle.std.specs.Prelude.{Err}
use lib.ListN.{get_or}
use mathlib.Core.Path.{◌≡◌, ap, ap₂, ◌∙◌, subst}
use Prim.Native.Nat.{ℕ, ◌≤◌, ◌<◌, min}
use Rattle.numbers.specs.Special.{elements_of}
use Rattle.descriptor.specs.declared.FieldDescriptor.{FieldDescriptor}
use Rattle.tables.specs.Table.{Table, table_of}
use Rattle.tables.specs.declared.RepeatingFieldSet.{RepeatingFieldSet}
use Rattle.walking.specs.Looks.{enter_with}
use Rattle.writing.specs.declared.Pen.{Pen}
use Rattle.writing.specs.Encode.{one_of, count_of, too_many}
use Rattle.writing.specs.Strokes.{stroked_to, shown}
use Rattle.writing.proofs.Turning.{enters, exceeds}
use Rattle.writing.proofs.strokes.enter.Goals as goal

-- the count that the calls find, of the set, its counter's field and its raw
counted : (t : Table) (k : ℕ) (pen : Pen) {g : RepeatingFieldSet} {f : FieldDescriptor} {raw n : ℕ}
    → g ≡ t.set k → f ≡ t.field g.counter → raw ≡ get_or pen.counters k 0 → n ≡ elements_of (min f.width 64) raw → n ≡ count_of t k pen
counted t k pen s d r e =
    e ∙ ap₂ (λ (f : FieldDescriptor) (x : ℕ). elements_of (min f.width 64) x) (d ∙ ap (λ (g : RepeatingFieldSet). t.field g.counter) s) r

pub returns-then-n-maximum : goal.returns-then-n-maximum
returns-then-n-maximum c =
    let a = c.args in
    let t = table_of a.words.now in
    let n = c.counter_elements-n.result in
    let e = counted t a.k a.draft.pen c.set_at-set.ensures c.field_at-f.ensures c.counter_at-raw.ensures c.counter_elements-n.ensures in
    c.stroked.ensures
    ∙ enters t a.offer a.draft.spot 0 0 a.k n a.draft.pen (subst (λ (g : RepeatingFieldSet). n ≤ g.maximum) c.set_at-set.ensures c.if-n-maximum.true)
    ∙ ap (λ (m : ℕ). shown t a.offer a.draft.spot (enter_with t (one_of t (λ (j : ℕ). a.offer) 0 0) (count_of t) too_many a.k m a.draft.pen)) e

pub returns : goal.returns
returns c =
    let a = c.args in
    let t = table_of a.words.now in
    let n = c.counter_elements-n.result in
    let e = counted t a.k a.draft.pen c.set_at-set.ensures c.field_at-f.ensures c.counter_at-raw.ensures c.counter_elements-n.ensures in
    c.stroked-2.ensures
    ∙ ap (λ (g : RepeatingFieldSet). stroked_to (Err (too_many a.k n g.maximum)) a.draft.spot a.draft.pen) c.set_at-set.ensures
    ∙ exceeds t a.offer a.draft.spot 0 0 a.k n a.draft.pen (subst (λ (g : RepeatingFieldSet). g.maximum < n) c.set_at-set.ensures c.if-n-maximum.false)
    ∙ ap (λ (m : ℕ). shown t a.offer a.draft.spot (enter_with t (one_of t (λ (j : ℕ). a.offer) 0 0) (count_of t) too_many a.k m a.draft.pen)) e
