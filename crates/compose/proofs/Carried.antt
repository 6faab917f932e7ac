-- What a refusal of an encode carries: at most three values. Assumes nothing.
use mathlib.Core.Path.{◌≡◌}
use mathlib.Core.List.{[], ◌∷◌}
use Prim.Native.Nat.{ℕ, ◌≤◌}
use native.Mathlib.Omega.{arith}
use lib.ListN.{length, take, get_or}
use Rattle.text.specs.Refusals.{refused_text}
use Rattle.text.proofs.Carrying.{carried-all}
use Rattle.frame_lines.proofs.Carried.{bit-few}
use Rattle.weighing.specs.declared.EncodeRefusal.{EncodeRefusal}
use Rattle.weighing.specs.declared.EncodeRefusal.TheVariants.{BitWriteError, RepetitionsExceedCapacity, WrongLength, TableRefused, OutOfRange, WrongKind, ValueCount, TextTooLong}
use Rattle.weighing.specs.Refusals.{number_of, carried_of}
use Rattle.compose.specs.Answers.{refusal_text}

pub few : (e : EncodeRefusal) → length (carried_of e) ≤ 3
few (BitWriteError field refusal) = omega (arith, bit-few refusal)
few (RepetitionsExceedCapacity set count maximum) = omega arith
few (WrongLength length) = omega arith
few (TableRefused rule index) = omega arith
few (OutOfRange field) = omega arith
few (WrongKind field) = omega arith
few (ValueCount field) = omega arith
few (TextTooLong field) = omega arith

-- the refusal's number, and of the values at the first three places as many as it carries, are the refusal
pub carried : (e : EncodeRefusal) {number count first second third : ℕ} → number ≡ number_of e → count ≡ length (carried_of e)
    → first ≡ get_or (carried_of e) 0 0 → second ≡ get_or (carried_of e) 1 0 → third ≡ get_or (carried_of e) 2 0
    → refused_text number (take count (first ∷ second ∷ third ∷ [])) ≡ refusal_text e
carried e n k a b c = carried-all (number_of e) (carried_of e) (few e) n k a b c
