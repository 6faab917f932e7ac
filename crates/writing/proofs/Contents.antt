-- What is written at a field lies in the buffer. Assumes nothing.
use Rattle.std.specs.Prelude.{Result, Ok, Err}
use mathlib.Core.Path.{◌≡◌, refl}
use mathlib.Core.Bool.{Bool, true, false, false≢true}
use Prim.Native.Nat.{ℕ, ◌+◌}
use native.Mathlib.Omega.{arith}
use Rattle.weighing.specs.declared.EncodeRefusal.{EncodeRefusal}
use Rattle.bits.specs.Bits.{pick}
use Rattle.descriptor.specs.declared.FieldDescriptor.{FieldDescriptor}
use Rattle.tables.specs.Table.{Table}
use Rattle.walking.specs.Walk.{Element}
use Rattle.walking.specs.declared.Look.{Look}
use Rattle.walking.specs.declared.Look.TheVariants.{End, Pass, Enter, Meet}
use Rattle.fields.specs.Shapes.{shape_of, is_gap_lem}
use Rattle.offers.specs.declared.Offer.{Offer}
use Rattle.offers.specs.declared.Offer.TheVariants.{Nothing, NoKind, Value}
use Rattle.weighing.specs.declared.Weighed.{Weighed}
use Rattle.weighing.specs.declared.Weighed.TheVariants as weighed
use Rattle.weighing.specs.Weigh.{gap_of}
use Rattle.writing.specs.Ink.{Puttable}
use Rattle.writing.specs.Encode.{offered_of, content_of_lem, pen_after_lem}
use Rattle.writing.specs.declared.Pen.{Pen}
use Rattle.writing.specs.Strokes.{Reaches, size_of, put_by}
use Rattle.writing.specs.Ones.{inks}
use Rattle.writing.proofs.Puts.{weighed-puts, gap-puts}

module _ (size at lent : ℕ) where
  pub content-puts : (o : Offer) (f : FieldDescriptor) (i : ℕ) → Puttable size at (content_of_lem o f i lent size at) lent
  content-puts o f i = go (is_gap_lem (shape_of f))
    where
      offered : (o : Offer) → Puttable size at (offered_of o f i lent size at) lent
      offered Nothing = refl
      offered NoKind = refl
      offered (Value v) = weighed-puts size at lent f i v

      go : (b : Bool) → Puttable size at (pick b (gap_of f i size at) (offered_of o f i lent size at)) lent
      go true = gap-puts size at lent f i
      go false = offered o

  puttable-in : (w : Result Weighed EncodeRefusal) → Puttable size at w lent → Reaches at w
  puttable-in (Ok (weighed.Number n r)) h = omega (arith, h.0, h.1.1.1)
  puttable-in (Ok (weighed.Gap n)) h = omega (arith, h.0, h.1)
  puttable-in (Ok (weighed.Text n lead b)) h = omega (arith, h.0, h.1.0)
  puttable-in (Err e) h = refl

  -- .. and the cursor after it in 64 bits
  pub content-in : (o : Offer) (f : FieldDescriptor) (i : ℕ) → Reaches at (content_of_lem o f i lent size at)
  content-in o f i = puttable-in (content_of_lem o f i lent size at) (content-puts o f i)

-- the pen goes past what was weighed
pub pen-past : (t : Table) (i : ℕ) (e : Element) (s : Pen) (w : Weighed) → (pen_after_lem t i e s (Ok w)).at.0 ≡ s.at.0 + (size_of (Ok w)).0
pen-past t i e s (weighed.Number n r) = refl
pen-past t i e s (weighed.Gap n) = refl
pen-past t i e s (weighed.Text n lead b) = refl

-- what a turn puts has room
pub put-room : (t : Table) (o : Offer) (lent size : ℕ) (s : Pen) (l : Look) → inks (put_by t o lent size s l) ≡ true → Puttable size s.at.0 (put_by t o lent size s l) lent
put-room t o lent size s End h = absurd (false≢true h)
put-room t o lent size s (Pass q) h = absurd (false≢true h)
put-room t o lent size s (Enter k) h = absurd (false≢true h)
put-room t o lent size s (Meet i e last q) h = content-puts size s.at.0 lent o (t.field i) i
