-- A number or a gap that is read quickly is the field that reading meets there. Assumes nothing.
use mathlib.Core.Path.{◌≡◌, refl, sym, ap, ap₂, ◌∙◌, subst}
use mathlib.Core.Bool.{Bool, true, false}
use mathlib.Core.Logic.{◌⊎◌, inl, inr}
use mathlib.Core.List.{List, [], ◌∷◌, ◌++◌}
use Prim.Native.Nat.{ℕ, ◌+◌, ◌≤◌, ◌<◌}
use native.Mathlib.Omega.{arith}
use lib.Dec.{ltb}
use lib.ListN.{length, length-append}
use borrow.Author.Tests.{lt-ltb}
use Rattle.bits.specs.declared.Read.{Read}
use Rattle.std.specs.Prelude.{Option, Some, Ok}
use Rattle.bits.specs.Calls.{bits, cursor_at, read_u64_of, advance_of}
use Rattle.bits.specs.declared.Cursor.{Cursor}
use Rattle.bits.proofs.Answers.{read_below}
use Rattle.descriptor.specs.declared.FieldKind.{FieldKind}
use Rattle.descriptor.specs.declared.FieldKind.TheVariants as kind
use Rattle.descriptor.specs.declared.FieldDescriptor.{FieldDescriptor}
use Rattle.descriptor.specs.declared.PgnValue.{PgnValue}
use Rattle.numbers.specs.Scaling.{scale_of}
use Rattle.numbers.specs.Special.{number_availability_of}
use Rattle.numbers.specs.Words.{simple_words_of}
use Rattle.numbers.proofs.Simple.{simple-words}
use Rattle.tables.specs.Table.{Table, Simple}
use Rattle.walking.specs.Walk.{hit, check, Element}
use Rattle.fields.specs.declared.DecodeRefusal.{DecodeRefusal}
use Rattle.fields.specs.declared.DecodeRefusal.TheVariants.{NoRoom}
use Rattle.fields.specs.declared.Shape.{Shape}
use Rattle.fields.specs.declared.Shape.TheVariants.{Number, Gap, Fixed, Whole, Lau, Lz}
use Rattle.fields.specs.declared.FieldRead.TheVariants as read
use Rattle.fields.specs.Payload.{Payload, payload_of}
use Rattle.fields.specs.Shapes.{shape_by, shape_of, is_number, is_gap_lem}
use Rattle.fields.specs.Taken.{taken_by, room_at}
use Rattle.fields.specs.Content.{availability_by, availability_of, read_over, field_read_of}
use Rattle.fields.proofs.Spelled.{number_says, number-says, gap_says, gap-says}
use Rattle.reading.specs.declared.Span.{Span}
use Rattle.reading.specs.declared.Reading.{Reading}
use Rattle.reading.specs.declared.Progress.{Progress}
use Rattle.reading.specs.Groups.{noted_by_lem}
use Rattle.reading.specs.Decode.{span_at, progress_at, settled, reading_of, with_reading, readings}
use Rattle.reading.proofs.Told.{told, gone, lies_in}
use Rattle.records.specs.Layout.{laid, record_of_lem, number_reading, number_record, records}
use Rattle.records.specs.Puts.{puts}
use Rattle.records.specs.Stretches.{place_at_lem, Roomy, stored, Field, none, more, Ran}
use Rattle.records.proofs.Worth.{number-record}
use Rattle.records.proofs.Putting.{length-puts, length-records, puts_then, records-append, one-record}

no : {A : Type 0} → ◌≡◌ {A = Bool} false true → A
no h = let z : ◌≡◌ {A = ℕ} 0 1 = cc in absurd (omega arith)

-- ## What is read

module _ (f : FieldDescriptor) (s : List ℕ) (i at : ℕ) (early : Bool) where
  number_at : (a : Read ℕ) (sh : Shape) → is_number sh ≡ true → read_u64_of s (cursor_at at) f.width ≡ Ok a
      → read_over (taken_by sh (payload_of s) i early f.width at) sh f (payload_of s) at ≡ Ok (read.Got (bits f.width) (Some a.value) (scale_of f a.value))
  number_at a (Number strict) h g = sym (number-says f s i at strict (room_at (payload_of s) at f.width)) ∙ ap (number_says f s i at strict) g
  number_at a Gap h g = no h
  number_at a Fixed h g = no h
  number_at a Whole h g = no h
  number_at a Lau h g = no h
  number_at a Lz h g = no h

  pub number_read : (a : Read ℕ) → is_number (shape_of f) ≡ true → read_u64_of s (cursor_at at) f.width ≡ Ok a
      → field_read_of (payload_of s) f i early at ≡ Ok (read.Got (bits f.width) (Some a.value) (scale_of f a.value))
  number_read a h g = number_at a (shape_of f) h g

  gap_at : (d : Cursor) (sh : Shape) → is_gap_lem sh ≡ true → advance_of (length s) (cursor_at at) f.width 64 ≡ Ok d
      → read_over (taken_by sh (payload_of s) i early f.width at) sh f (payload_of s) at ≡ Ok (read.Skipped (bits f.width))
  gap_at d (Number strict) h g = no h
  gap_at d Gap h g = sym (gap-says f s i at (room_at (payload_of s) at f.width)) ∙ ap (gap_says f s i at) g
  gap_at d Fixed h g = no h
  gap_at d Whole h g = no h
  gap_at d Lau h g = no h
  gap_at d Lz h g = no h

  pub gap-read : (d : Cursor) → is_gap_lem (shape_of f) ≡ true → advance_of (length s) (cursor_at at) f.width 64 ≡ Ok d
      → field_read_of (payload_of s) f i early at ≡ Ok (read.Skipped (bits f.width))
  gap-read d h g = gap_at d (shape_of f) h g

says-by : (p : Payload) (f : FieldDescriptor) (v : ℕ) (x : PgnValue) (sh : Shape) → is_number sh ≡ true → availability_by sh p f (Some v) x ≡ number_availability_of f v
says-by p f v x (Number strict) h = refl
says-by p f v x Gap h = no h
says-by p f v x Fixed h = no h
says-by p f v x Whole h = no h
says-by p f v x Lau h = no h
says-by p f v x Lz h = no h

checked : (b : Bool) (e : DecodeRefusal) (v : Span) (z : Progress) → b ≡ true → check b e (hit v z) ≡ hit v z
unfolding check
checked true e v z h = refl
checked false e v z h = no h

-- ## The field met

module _ (t : Table) (s : List ℕ) (room i : ℕ) (e : Element) (at made : ℕ) (out : List ℕ) where
  abbrev p : Payload
  p = payload_of s

  abbrev f : FieldDescriptor
  f = t.field i

  abbrev v : Span
  v = span_at i e at f.width

  kept-one : ((q : Reading) (qs : List Reading) → with_reading (shape_of f) q qs ≡ q ∷ qs) → readings t p (v ∷ []) ≡ reading_of t p v ∷ []
  unfolding readings
  kept-one h = h (reading_of t p v) []

  kept-none : ((q : Reading) (qs : List Reading) → with_reading (shape_of f) q qs ≡ qs) → readings t p (v ∷ []) ≡ []
  unfolding readings
  kept-none h = h (reading_of t p v) []

  module _ (a : Read ℕ) (h : is_number (shape_of f) ≡ true) (g : read_u64_of s (cursor_at at) f.width ≡ Ok a) where
    abbrev r : ℕ
    r = a.value

    got : (early : Bool) → field_read_of p f i early at ≡ Ok (read.Got (bits f.width) (Some r) (scale_of f r))
    got early = number_read f s i at early a h g

    reading-is : reading_of t p v ≡ number_reading i e at f r
    reading-is =
        let o = told f p at (bits f.width) i false (Some r) (scale_of f r) (got false) in
        ap₂ (λ (q : Option ℕ) (x : PgnValue). record { field = i; element = e; start = bits at; bits = bits f.width; raw = q; value = x; availability = availability_of p f q x }) (sym o.raw) (sym o.value)
        ∙ ap (λ w. record { field = i; element = e; start = bits at; bits = bits f.width; raw = Some r; value = scale_of f r; availability = w }) (says-by p f r (scale_of f r) (shape_of f) h)

    pub number-field : (out' : List ℕ) → made < room → out' ≡ puts out (place_at_lem made) (laid (record_of_lem (number_reading i e at f r)))
        → Field t p room i e at made out f.width 1 (noted_by_lem t e i (Some r)) out'
    number-field out' l q =
        let o = told f p at (bits f.width) i false (Some r) (scale_of f r) (got false) in
        let one : readings t p (v ∷ []) ≡ reading_of t p v ∷ [] = kept-one o.kept in
        let near = lies_in f p at (bits f.width) i false o.took in
        record {
          hits = λ cs last. ap (settled t room i e (progress_at at made cs)) (got last) ∙ checked (ltb made room) (NoRoom i) v (progress_at (at + f.width) (made + 1) (noted_by_lem t e i (Some r) cs)) (lt-ltb _ _ l);
          makes = ap length one;
          puts = q ∙ ap (puts out (place_at_lem made)) (sym (ap records one ∙ one-record (reading_of t p v) ∙ ap (λ (x : Reading). laid (record_of_lem x)) reading-is));
          near = omega (arith, near.0, near.1);
        }

  pub gap-field : (d : Cursor) → is_gap_lem (shape_of f) ≡ true → advance_of (length s) (cursor_at at) f.width 64 ≡ Ok d → Field t p room i e at made out f.width 0 (λ cs. cs) out
  unfolding records puts
  gap-field d h g =
      let o = gone f p at (bits f.width) i false (gap-read f s i at false d h g) in
      let none : readings t p (v ∷ []) ≡ [] = kept-none o.kept in
      let near = lies_in f p at (bits f.width) i false o.took in
      let same : made ≡ made + 0 = omega arith in
      record {
        hits = λ cs last. ap (settled t room i e (progress_at at made cs)) (gap-read f s i at last d h g) ∙ ap (λ (m : ℕ). hit v (progress_at (at + f.width) m cs)) same;
        makes = ap length none;
        puts = sym (ap (λ (rs : List Reading). stored out made rs) none);
        near = omega (arith, near.0, near.1);
      }

-- ## One field more

pub stored-then : (out : List ℕ) (m n : ℕ) (rs qs : List Reading) → n ≡ m + length rs → stored (stored out m rs) n qs ≡ stored out m (rs ++ qs)
stored-then out m n rs qs h =
    let l = length-records rs in
    let e : place_at_lem n ≡ place_at_lem m + length (records rs) = omega (arith, h, l) in
    ap (λ (a : ℕ). puts (stored out m rs) a (records qs)) e ∙ puts_then out (place_at_lem m) (records rs) (records qs) ∙ ap (puts out (place_at_lem m)) (sym (records-append rs qs))

pub stored-none : (out : List ℕ) (m : ℕ) → stored out m [] ≡ out
unfolding records puts
stored-none out m = refl

pub stored_one : (out : List ℕ) (m : ℕ) (r : Reading) → stored out m (r ∷ []) ≡ puts out (place_at_lem m) (laid (record_of_lem r))
stored_one out m r = ap (puts out (place_at_lem m)) (one-record r)

pub length-stored : (out : List ℕ) (m : ℕ) (rs : List Reading) → length (stored out m rs) ≡ length out
length-stored out m rs = length-puts out (place_at_lem m) (records rs)

pub roomy-on : (room : ℕ) (out : List ℕ) (m : ℕ) (rs : List Reading) (out' : List ℕ) → Roomy room out → out' ≡ stored out m rs → Roomy room out'
roomy-on room out m rs out' h e =
    let l : length out ≡ length out' = sym (ap length e ∙ length-stored out m rs) in
    record { fits = λ k b. subst (λ (n : ℕ). place_at_lem k + 64 ≤ n) l (h.fits k b) }

module _ (t : Table) (p : Payload) (room : ℕ) (e : Element) (from end : ℕ) (s : Progress) (out : List ℕ) where
  pub ran-none : from ≤ end → Ran t p room e from end s out from s out
  unfolding records puts
  ran-none l = record { readings = []; hits = none; made = (let z : s.made ≡ s.made + 0 = omega arith in z); puts = refl; low = omega arith; high = l }

  pub ran-more : (i at made : ℕ) (cs : List ℕ) (out₁ out₂ : List ℕ) (n k : ℕ) (count : List ℕ → List ℕ) → Ran t p room e from end s out i (progress_at at made cs) out₁ → i < end
      → Field t p room i e at made out₁ n k count out₂ → Ran t p room e from end s out (i + 1) (progress_at (at + n) (made + k) (count cs)) out₂
  ran-more i at made cs out₁ out₂ n k count r l d =
      let qs : List Reading = readings t p (span_at i e at n ∷ []) in
      let a = length-append r.readings qs in
      let m : made ≡ s.made + length r.readings = r.made in
      let o : length qs ≡ k = d.makes in
      record {
        readings = r.readings ++ qs;
        hits = more r.readings i (progress_at at made cs) (span_at i e at n) (progress_at (at + n) (made + k) (count cs)) r.hits (d.hits cs);
        made = omega (arith, a, m, o);
        puts = d.puts ∙ ap (λ (x : List ℕ). stored x made qs) r.puts ∙ stored-then out s.made made r.readings qs m;
        low = omega (arith, r.low);
        high = omega (arith, l);
      }

-- ## Of a field that is known by its descriptor

module _ (t : Table) (s : List ℕ) (room i : ℕ) (e : Element) (at made : ℕ) (out : List ℕ) where
  pub number_of : (f : FieldDescriptor) → f ≡ t.field i → (a : Read ℕ) → is_number (shape_of f) ≡ true → read_u64_of s (cursor_at at) f.width ≡ Ok a
      → (out' : List ℕ) → made < room → out' ≡ puts out (place_at_lem made) (laid (record_of_lem (number_reading i e at f a.value)))
      → Field t (payload_of s) room i e at made out f.width 1 (noted_by_lem t e i (Some a.value)) out'
  number_of f h a =
      subst (λ (x : FieldDescriptor). is_number (shape_of x) ≡ true → read_u64_of s (cursor_at at) x.width ≡ Ok a
      → (out' : List ℕ) → made < room → out' ≡ puts out (place_at_lem made) (laid (record_of_lem (number_reading i e at x a.value)))
      → Field t (payload_of s) room i e at made out x.width 1 (noted_by_lem t e i (Some a.value)) out')
      (sym h) (number-field t s room i e at made out a)

  -- .. by its width alone
  pub simple-of : (n : ℕ) → Simple (t.field i) n → (a : Read ℕ) → read_u64_of s (cursor_at at) n ≡ Ok a
      → (out' : List ℕ) → made < room → out' ≡ puts out (place_at_lem made) (laid (number_record i e at n a.value (simple_words_of n a.value)))
      → Field t (payload_of s) room i e at made out n 1 (noted_by_lem t e i (Some a.value)) out'
  simple-of n k a g =
      subst (λ (m : ℕ). read_u64_of s (cursor_at at) m ≡ Ok a → (out' : List ℕ) → made < room
      → out' ≡ puts out (place_at_lem made) (laid (number_record i e at m a.value (simple_words_of m a.value)))
      → Field t (payload_of s) room i e at made out m 1 (noted_by_lem t e i (Some a.value)) out')
      k.width
      (λ (h : read_u64_of s (cursor_at at) f.width ≡ Ok a) (out' : List ℕ) (l : made < room) (q : out' ≡ puts out (place_at_lem made) (laid (number_record i e at f.width a.value (simple_words_of f.width a.value)))).
      number-field t s room i e at made out a (number-kind k.kind) h out' l (q ∙ ap (λ (ws : List ℕ). puts out (place_at_lem made) (laid ws)) (number-record i e at f a.value _ (simple-words f f.width a.value k.kind k.unscaled k.unsigned refl (omega (arith, k.small, k.width)) (read_below s (cursor_at at) f.width 64 a h)))))
      g
    where
      f : FieldDescriptor
      f = t.field i

      number-kind : (f.kind ≡ kind.Number) ⊎ (f.kind ≡ kind.Lookup) → is_number (shape_of f) ≡ true
      number-kind (inl x) = ap (λ (y : FieldKind). is_number (shape_by y f.width)) x
      number-kind (inr x) = ap (λ (y : FieldKind). is_number (shape_by y f.width)) x

  pub gap_of : (f : FieldDescriptor) → f ≡ t.field i → (d : Cursor) → is_gap_lem (shape_of f) ≡ true → advance_of (length s) (cursor_at at) f.width 64 ≡ Ok d
      → Field t (payload_of s) room i e at made out f.width 0 (λ cs. cs) out
  gap_of f h d =
      subst (λ (x : FieldDescriptor). is_gap_lem (shape_of x) ≡ true → advance_of (length s) (cursor_at at) x.width 64 ≡ Ok d → Field t (payload_of s) room i e at made out x.width 0 (λ cs. cs) out)
      (sym h) (gap-field t s room i e at made out d)
