-- Whether two ways through a payload came to the same, as the code tests it. No answer speaks of it: proofs/Same.antt shows that they always do.
use Rattle.std.specs.Prelude.{ℕ, List, [], ◌∷◌, Bool, false, ◌&&◌, Result, Ok, Err, eqb, length, get_or}
use Rattle.bits.specs.Bits.{pick}
use Rattle.bits.specs.declared.BitPos.{BitPos}
use Rattle.fields.specs.declared.DecodeRefusal.{DecodeRefusal}
use Rattle.fields.specs.Refusals.{number_of, carried_of}
use Rattle.reading.specs.declared.Decoded.{Decoded}

-- whether both carry the same at a place
abbrev pub alike_at : DecodeRefusal → DecodeRefusal → ℕ → Bool
alike_at a b i = eqb (get_or (carried_of a) i 0) (get_or (carried_of b) i 0)

-- one number, and the same carried: at most three values
abbrev pub alike : DecodeRefusal → DecodeRefusal → Bool
alike a b = eqb (number_of a) (number_of b) && eqb (length (carried_of a)) (length (carried_of b)) && alike_at a b 0 && alike_at a b 1 && alike_at a b 2

-- one end or one refusal
abbrev pub is_one_end_lem : Result BitPos DecodeRefusal → Result BitPos DecodeRefusal → Bool
is_one_end_lem (Ok a) (Ok b) = eqb a.0 b.0
is_one_end_lem (Ok a) (Err f) = false
is_one_end_lem (Err e) (Ok b) = false
is_one_end_lem (Err e) (Err f) = alike e f

-- .. and one count
abbrev pub is_same_lem : Decoded → Decoded → Bool
is_same_lem a b = eqb a.count b.count && is_one_end_lem a.end b.end

-- the line X, where they differ
abbrev pub difference_text : Bool → List ℕ
difference_text same = pick same [] (88 ∷ 10 ∷ [])
