-- The text of an answer by what was found, and a line by its call. Assumes nothing.
use mathlib.Core.Path.{◌≡◌, ap₂}
use mathlib.Core.Bool.{Bool, true, false, ◌&&◌, and-false}
use mathlib.Core.List.{List, [], ◌∷◌}
use Prim.Native.Nat.{ℕ, ◌<◌}
use native.Mathlib.Omega.{arith}
use borrow.Author.Tests.{eq-eqb, ne_eqb, lt-ltb}
use lib.Dec.{eqb}
use lib.ListN.{get_or, take}
use Rattle.text.specs.Refusals.{refused_text, malformed_text}
use Rattle.columns.specs.Parts.{space, field, marks_in}
use Rattle.columns.specs.Numbers.{hex_in}
use Rattle.columns.specs.Names.{same}
use Rattle.std.specs.Prelude.{Some, None}
use Rattle.offers.specs.Records.{offer_of_lem}
use Rattle.samopute_c.specs.Values.{scale_status, scale_cells}
use Rattle.samopute_c.specs.Clauses.{GivesRaw}
use Rattle.numbercalls.specs.declared.line_fields.Field.{Field}
use Rattle.numbercalls.specs.Names.{value_kind_names, scale_name, raw_name}
use Rattle.numbercalls.specs.Fields.{placed}
use Rattle.numbercalls.specs.Answers.{refusal_text, silence_text, value_text, scale_answer, ok_text, raw_answer, descriptor_of, scale_call, raw_call, scale_text, raw_text, is_call, call_text}

-- ## By the status

module _ {status : ℕ} where
  -- of the refusals only 1 carries numbers
  module _ (first second : ℕ) {count : ℕ} where
    pub two : status ≡ 1 → count ≡ 2 → refused_text status (take count (first ∷ second ∷ 0 ∷ [])) ≡ refusal_text status first second
    two h k = rw (k, eq-eqb status 1 h)

    pub none : (status ≡ 1 → ⊥) → count ≡ 0 → refused_text status (take count (first ∷ second ∷ 0 ∷ [])) ≡ refusal_text status first second
    none h k = rw (k, ne_eqb status 1 h)

  module _ (cells : List ℕ) where
    pub scale-refused : (status ≡ 0 → ⊥) → refusal_text status (get_or cells 0 0) (get_or cells 1 0) ≡ scale_answer status cells
    scale-refused h = rw (ne_eqb status 0 h)

    pub scale-said : status ≡ 0 → value_text (get_or cells 0 0) (get_or cells 1 0) (get_or cells 2 0) ≡ scale_answer status cells
    scale-said h = rw (eq-eqb status 0 h)

    pub back-refused : (status ≡ 0 → ⊥) → refusal_text status (get_or cells 0 0) (get_or cells 1 0) ≡ raw_answer status cells
    back-refused h = rw (ne_eqb status 0 h)

    pub back-said : status ≡ 0 → ok_text (get_or cells 0 0) ≡ raw_answer status cells
    back-said h = rw (eq-eqb status 0 h)

module _ {silence : ℕ} where
  pub says : silence ≡ 0 → 32 ∷ 65 ∷ [] ≡ silence_text silence
  says h = rw (eq-eqb silence 0 h)

  pub says_nothing : (silence ≡ 0 → ⊥) → 32 ∷ 78 ∷ [] ≡ silence_text silence
  says_nothing h = rw (ne_eqb silence 0 h)

-- ## The calls, by what was read of their words

module _ (f : Field) (value : List ℕ) where
  pub scaled : {v : ℕ} → hex_in value ≡ Some v → {status : ℕ} {cells : List ℕ} → (status ≡ scale_status (descriptor_of f)) × (cells ≡ scale_cells (descriptor_of f) v)
      → scale_answer status cells ≡ scale_text f value
  unfolding scale_call
  scaled e h = rw e (ap₂ scale_answer h.0 h.1)

  module _ (kind : List ℕ) where
    pub no_kind : placed kind value_kind_names ≡ None → malformed_text ≡ raw_text f kind value
    no_kind k = rw k

    pub no_value : hex_in value ≡ None → malformed_text ≡ raw_text f kind value
    no_value e = rw (e, and-false)

    module _ {code : ℕ} (k : placed kind value_kind_names ≡ Some code) where
      pub first_kind : code ≡ 0 → malformed_text ≡ raw_text f kind value
      first_kind z = rw (k, z)

      pub back : {v : ℕ} → (code ≡ 0 → ⊥) → hex_in value ≡ Some v → {status : ℕ} {cells : List ℕ} → GivesRaw status cells (descriptor_of f) (offer_of_lem code v)
          → raw_answer status cells ≡ raw_text f kind value
      unfolding raw_call
      back some e h = let l : 0 < code = omega arith in rw (k, lt-ltb 0 code l, e) (ap₂ raw_answer h.0 h.1)

-- ## A line

pub called : (name line : List ℕ) (spaces : ℕ) {w : List ℕ} {t : Bool} {n : ℕ} → w ≡ field line 0 → t ≡ same w name → n ≡ marks_in space line → (t && eqb n spaces) ≡ is_call name spaces line
called name line spaces e f g = rw (f, e, g)

module _ (f : Field) (line : List ℕ) {t : Bool} (is : t ≡ is_call scale_name 6 line) where
  pub a_scale : t ≡ true → {w : List ℕ} → w ≡ field line 6 → scale_text f w ≡ call_text f line
  a_scale g e = rw (← is, g, e)

  module _ (no : t ≡ false) {u : Bool} (is-raw : u ≡ is_call raw_name 7 line) where
    pub a-raw : u ≡ true → {v w : List ℕ} → v ≡ field line 6 → w ≡ field line 7 → raw_text f v w ≡ call_text f line
    a-raw g e h = rw (← is, no, ← is-raw, g, e, h)

    pub no_call : u ≡ false → malformed_text ≡ call_text f line
    no_call g = rw (← is, no, ← is-raw, g)
