-- The name at the code of each kind is that kind.
use mathlib.Core.Path.{◌≡◌, refl, ap, ◌∙◌}
use mathlib.Core.List.{List, [], ◌∷◌}
use Prim.Native.Nat.{ℕ}
use lib.ListN.{get_or}
use Rattle.descriptor.specs.declared.PgnValue.{PgnValue}
use Rattle.descriptor.specs.declared.PgnValue.TheVariants.{U64, U32, U16, U8, I64, I32, I16, I8, F64, F32, Bytes}
use Rattle.numbers.specs.Words.{code_of}
use Rattle.columns.specs.Parts.{space, parts_of}
use Rattle.text.proofs.Putting.{then, same}
use Rattle.readcalls.specs.Lines.{kind_text}
use Rattle.readcalls.proofs.answers.put_kind.Goals as goal

abbrev names : List ℕ
names = 63 ∷ 32 ∷ 85 ∷ 54 ∷ 52 ∷ 32 ∷ 85 ∷ 51 ∷ 50 ∷ 32 ∷ 85 ∷ 49 ∷ 54 ∷ 32 ∷ 85 ∷ 56 ∷ 32 ∷ 73 ∷ 54 ∷ 52 ∷ 32 ∷ 73 ∷ 51 ∷ 50 ∷ 32 ∷ 73 ∷ 49 ∷ 54 ∷ 32 ∷ 73 ∷ 56 ∷ 32 ∷ 70 ∷ 54 ∷ 52 ∷ 32 ∷ 70 ∷ 51 ∷ 50 ∷ 32 ∷ 66 ∷ 121 ∷ 116 ∷ 101 ∷ 115 ∷ []

abbrev kinds : List (List ℕ)
kinds = (63 ∷ []) ∷ (85 ∷ 54 ∷ 52 ∷ []) ∷ (85 ∷ 51 ∷ 50 ∷ []) ∷ (85 ∷ 49 ∷ 54 ∷ []) ∷ (85 ∷ 56 ∷ []) ∷ (73 ∷ 54 ∷ 52 ∷ []) ∷ (73 ∷ 51 ∷ 50 ∷ []) ∷ (73 ∷ 49 ∷ 54 ∷ []) ∷ (73 ∷ 56 ∷ []) ∷ (70 ∷ 54 ∷ 52 ∷ []) ∷ (70 ∷ 51 ∷ 50 ∷ []) ∷ (66 ∷ 121 ∷ 116 ∷ 101 ∷ 115 ∷ []) ∷ []

spelled : parts_of space names ≡ kinds
unfolding parts_of
spelled = refl

at_code : (x : PgnValue) → 32 ∷ get_or kinds (code_of x) [] ≡ kind_text x
at_code (U64 x) = refl
at_code (U32 x) = refl
at_code (U16 x) = refl
at_code (U8 x) = refl
at_code (I64 x) = refl
at_code (I32 x) = refl
at_code (I16 x) = refl
at_code (I8 x) = refl
at_code (F64 x) = refl
at_code (F32 x) = refl
at_code (Bytes x) = refl

name : (x : PgnValue) {n : ℕ} {s : List ℕ} → n ≡ code_of x → s ≡ get_or (parts_of space names) n [] → 32 ∷ s ≡ kind_text x
name x {n} e f = ap (λ (s : List ℕ). 32 ∷ s) (f ∙ ap (λ (ps : List (List ℕ)). get_or ps n []) spelled ∙ ap (λ (n : ℕ). get_or kinds n []) e) ∙ at_code x

pub returns : goal.returns
returns c = same (name c.args.value c.code_of-code.ensures c.word.ensures) (then c.put.ensures c.put_text.ensures)
