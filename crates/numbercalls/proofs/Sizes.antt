-- How long an answer is: at most 85 bytes, which a refusal may have, and a newline. Assumes nothing.
use mathlib.Core.Bool.{◌&&◌}
use mathlib.Core.List.{List, [], ◌∷◌, ◌++◌}
use Prim.Native.Nat.{ℕ, zero, suc, ◌≤◌, max}
use native.Mathlib.Omega.{arith}
use lib.Dec.{eqb}
use lib.ListN.{length, get_or}
use Rattle.std.specs.Prelude.{Option, Some, None, is_some, unwrap_or}
use Rattle.text.specs.Digits.{spaced_hex}
use Rattle.text.specs.Refusals.{malformed_text}
use Rattle.text.proofs.Sizes.{either, plus, hex-size, refused-size}
use Rattle.columns.specs.Parts.{field}
use Rattle.columns.specs.Numbers.{hex_in}
use Rattle.lines.specs.Machine.{newline}
use Rattle.numbers.specs.Refusals.{number_of}
use Rattle.offers.specs.Records.{offer_of_lem}
use Rattle.samopute_c.specs.Values.{scale_status, scale_cells, raw_offered, raw_cells}
use Rattle.numbercalls.specs.declared.line_fields.Field.{Field}
use Rattle.numbercalls.specs.Names.{value_kind_names, scale_name, raw_name}
use Rattle.numbercalls.specs.Fields.{placed, field_in}
use Rattle.numbercalls.specs.Answers.{bad_width, refusal_text, silence_text, value_text, scale_answer, raw_answer, descriptor_of, scale_call, raw_call, scale_text, is_kind_lem, raw_text, is_call, call_text, fielded_text, answer_text, answered}

-- no answer has more bytes, without its newline
abbrev text_max : ℕ
text_max = 85

-- ## The name of a kind

-- the bytes of the longest of several names
longest : List (List ℕ) → ℕ
longest [] = 0
longest (p ∷ ps) = max (length p) (longest ps)

name-size : (ps : List (List ℕ)) (n : ℕ) → length (get_or ps n []) ≤ longest ps
unfolding longest
name-size [] n = omega arith
name-size (p ∷ ps) zero = omega arith
name-size (p ∷ ps) (suc n) = omega (arith, name-size ps n)

-- ## The texts

refusal-size : (status first second : ℕ) → length (refusal_text status first second) ≤ text_max
refusal-size status first second = refused-size status _ (either (eqb status bad_width) (first ∷ second ∷ []) [] 3 (omega arith) (omega arith))

value-size : (kind value silence : ℕ) → length (value_text kind value silence) ≤ text_max
unfolding longest
value-size kind value silence =
    let name = get_or value_kind_names kind [] in
    let said = either (eqb silence 0) (32 ∷ 65 ∷ []) (32 ∷ 78 ∷ []) 2 (omega arith) (omega arith) in
    let word = plus name (spaced_hex value) 5 21 (name-size value_kind_names kind) (omega (arith, (hex-size value).1)) in
    omega (arith, plus (name ++ spaced_hex value) (silence_text silence) 26 2 word said)

scale-answer-size : (status : ℕ) (cells : List ℕ) → length (scale_answer status cells) ≤ text_max
scale-answer-size status cells =
    either (eqb status 0) _ _ text_max (value-size (get_or cells 0 0) (get_or cells 1 0) (get_or cells 2 0)) (refusal-size status (get_or cells 0 0) (get_or cells 1 0))

raw-answer-size : (status : ℕ) (cells : List ℕ) → length (raw_answer status cells) ≤ text_max
raw-answer-size status cells =
    either (eqb status 0) _ _ text_max (omega (arith, (hex-size (get_or cells 0 0)).1)) (refusal-size status (get_or cells 0 0) (get_or cells 1 0))

-- ## The calls

module _ (f : Field) where
  scale-size : (raw : List ℕ) → length (scale_text f raw) ≤ text_max
  unfolding scale_call
  scale-size raw =
      let v = unwrap_or (hex_in raw) 0 in
      either (is_some (hex_in raw)) (scale_call f v) malformed_text text_max (scale-answer-size (scale_status (descriptor_of f)) (scale_cells (descriptor_of f) v)) (omega arith)

  raw-size : (kind value : List ℕ) → length (raw_text f kind value) ≤ text_max
  unfolding raw_call
  raw-size kind value =
      let code = placed kind value_kind_names in
      let v = unwrap_or (hex_in value) 0 in
      let x = raw_offered (descriptor_of f) (offer_of_lem (unwrap_or code 0) v) in
      either (is_kind_lem code && is_some (hex_in value)) (raw_call f (unwrap_or code 0) v) malformed_text text_max (raw-answer-size (number_of x) (raw_cells x)) (omega arith)

  call-size : (line : List ℕ) → length (call_text f line) ≤ text_max
  call-size line =
      either (is_call scale_name 6 line) _ _ text_max (scale-size (field line 6))
      (either (is_call raw_name 7 line) _ malformed_text text_max (raw-size (field line 6) (field line 7)) (omega arith))

pub answer-size : (line : List ℕ) → length (answered line) ≤ 86
unfolding answered
answer-size line =
    plus (answer_text line) (newline ∷ []) text_max 1 (by (field_in line)) (omega arith)
  where
    by : (f : Option Field) → length (fielded_text f line) ≤ text_max
    by None = omega arith
    by (Some f) = call-size f line
