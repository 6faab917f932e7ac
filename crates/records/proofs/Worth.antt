-- What the words of a record come to. Assumes nothing.
use mathlib.Core.Path.{◌≡◌, refl, sym, ap, ap₂, ◌∙◌}
use mathlib.Core.List.{[], ◌∷◌}
use Prim.Native.Nat.{ℕ, ◌+◌, ◌*◌, ◌≤◌}
use native.Mathlib.Omega.{arith}
use lib.Dec.{lit≤}
use denote.Enum.Declared.{tag_of}
use types.Run.{OneOf, miss}
use Rattle.walking.specs.Walk.{Element}
use Rattle.std.specs.Prelude.{Option, Some, None}
use Rattle.descriptor.specs.contracts.PgnValue.{the_type}
use Rattle.descriptor.specs.declared.Availability.{Availability}
use Rattle.descriptor.specs.declared.Availability.TheVariants.{Available, NotAvailable}
use Rattle.descriptor.specs.declared.FieldDescriptor.{FieldDescriptor}
use Rattle.descriptor.specs.declared.PgnBytes.{PgnBytes}
use Rattle.descriptor.specs.declared.PgnValue.{PgnValue}
use Rattle.descriptor.specs.declared.PgnValue.TheVariants.{U64, U32, U16, U8, I64, I32, I16, I8, F64, F32, Bytes}
use Rattle.numbers.specs.Scaling.{scale_of}
use Rattle.numbers.proofs.Scaled.{scaled_small}
use Rattle.numbers.specs.Special.{number_availability_of}
use Rattle.numbers.specs.Words.{code_of, word_of_lem, silence_of_lem, words_of, number_words_of}
use Rattle.numbers.specs.declared.NumberWords.{NumberWords}
use Rattle.records.specs.Layout.{raw_mark_lem, encoding_mark_lem, no_bytes_lem, bytes_in_lem, element_word_lem, value_word_lem, record_of_lem, number_reading, number_record}

pub code-small : (v : PgnValue) → code_of v ≤ 11
code-small (U64 n) = lit≤ tt
code-small (U32 n) = lit≤ tt
code-small (U16 n) = lit≤ tt
code-small (U8 n) = lit≤ tt
code-small (I64 z) = lit≤ tt
code-small (I32 z) = lit≤ tt
code-small (I16 z) = lit≤ tt
code-small (I8 z) = lit≤ tt
code-small (F64 x) = lit≤ tt
code-small (F32 x) = lit≤ tt
code-small (Bytes b) = lit≤ tt

-- an availability is a byte, whatever states it has
pub silence-small : (a : Availability) → silence_of_lem a ≤ 255
silence-small Available = lit≤ tt
silence-small NotAvailable = lit≤ tt

-- of a value's words
pub words_small : (v : PgnValue) (a : Availability) (n : NumberWords) → n ≡ words_of v (silence_of_lem a) → (n.silence ≤ 255) × (n.code ≤ 11)
words_small v a n e =
    let s : n.silence ≡ silence_of_lem a = ap (λ (m : NumberWords). m.silence) e in
    let k : n.code ≡ code_of v = ap (λ (m : NumberWords). m.code) e in
    (omega (arith, s, silence-small a), omega (arith, k, code-small v))

pub given-small : (r : Option ℕ) → raw_mark_lem r ≤ 1
given-small None = lit≤ tt
given-small (Some n) = lit≤ tt

-- ## A number has no bytes

pub none_below : (v : PgnValue) → code_of v ≤ 10 → bytes_in_lem v ≡ no_bytes_lem
none_below (U64 n) l = refl
none_below (U32 n) l = refl
none_below (U16 n) l = refl
none_below (U8 n) l = refl
none_below (I64 z) l = refl
none_below (I32 z) l = refl
none_below (I16 z) l = refl
none_below (I8 z) l = refl
none_below (F64 x) l = refl
none_below (F32 x) l = refl
none_below (Bytes b) l = absurd (omega (arith, l))

pub scaled-none : (f : FieldDescriptor) (x : ℕ) → bytes_in_lem (scale_of f x) ≡ no_bytes_lem
scaled-none f x = none_below (scale_of f x) (scaled_small f x)

-- ## A value that is no text

abbrev Numbers : PgnValue → Type 0
Numbers v = OneOf (0 ∷ 1 ∷ 2 ∷ 3 ∷ 4 ∷ 5 ∷ 6 ∷ 7 ∷ 8 ∷ 9 ∷ []) (tag_of the_type v)

pub no_bytes : (v : PgnValue) → Numbers v → no_bytes_lem ≡ bytes_in_lem v
no_bytes (U64 n) k = refl
no_bytes (U32 n) k = refl
no_bytes (U16 n) k = refl
no_bytes (U8 n) k = refl
no_bytes (I64 z) k = refl
no_bytes (I32 z) k = refl
no_bytes (I16 z) k = refl
no_bytes (I8 z) k = refl
no_bytes (F64 x) k = refl
no_bytes (F32 x) k = refl
no_bytes (Bytes b) k = absurd (miss (0 ∷ 1 ∷ 2 ∷ 3 ∷ 4 ∷ 5 ∷ 6 ∷ 7 ∷ 8 ∷ 9 ∷ []) 10 tt k)

plus_none : (n : ℕ) → n ≡ n + 0
plus_none n = omega arith

pub word-alone : (v : PgnValue) → Numbers v → word_of_lem v ≡ value_word_lem v
word-alone v k = plus_none (word_of_lem v) ∙ ap (λ (b : PgnBytes). word_of_lem v + b.start.0) (no_bytes v k)

none-plus : (n : ℕ) → n ≡ 0 + n
none-plus n = omega arith

pub place-alone : (v : PgnValue) (b : PgnBytes) → v ≡ Bytes b → b.start.0 ≡ value_word_lem v
place-alone v b h = none-plus b.start.0 ∙ sym (ap value_word_lem h)

-- ## The words of a number's record

tag-more : (s k : ℕ) → s + 256 * k + 65536 ≡ s + 256 * k + 65536 * 1 + 16777216 * 0
tag-more s k = omega arith

pub number-record : (i : ℕ) (e : Element) (at : ℕ) (f : FieldDescriptor) (r : ℕ) (n : NumberWords) → n ≡ number_words_of f r
    → number_record i e at f.width r n ≡ record_of_lem (number_reading i e at f r)
number-record i e at f r n h =
    let v = scale_of f r in
    let s = silence_of_lem (number_availability_of f r) in
    ap (number_record i e at f.width r) h
    ∙ ap₂ (λ (x : ℕ) (y : ℕ). i ∷ element_word_lem e ∷ at ∷ f.width ∷ x ∷ r ∷ y ∷ 0 ∷ []) (tag-more s (code_of v)) (plus_none (word_of_lem v))
    ∙ ap (λ (b : PgnBytes). i ∷ element_word_lem e ∷ at ∷ f.width ∷ (s + 256 * code_of v + 65536 * 1 + 16777216 * encoding_mark_lem b.encoding) ∷ r ∷ (word_of_lem v + b.start.0) ∷ b.len.0 ∷ []) (sym (scaled-none f r))
