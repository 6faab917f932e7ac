-- What a payload holds of a field that was written: its bits are what was put there. Definitions for the proof of read-back.
use Rattle.std.specs.Prelude.{Result, Ok, Err}
use mathlib.Core.Path.{◌≡◌}
use Prim.Native.Nat.{ℕ, ◌+◌, ◌*◌, ◌%◌, ◌^◌, ◌≤◌, ◌<◌}
use mathlib.Core.List.{List}
use lib.ListN.{length, get_or}
use Rattle.weighing.specs.declared.EncodeRefusal.{EncodeRefusal}
use Rattle.fields.specs.Payload.{Payload}
use Rattle.weighing.specs.declared.Weighed.{Weighed}
use Rattle.weighing.specs.declared.Weighed.TheVariants.{Number, Gap, Text}
use Rattle.writing.specs.Ink.{text_in_lem, bytes_by}
use Rattle.writing.specs.Encode.{Mark}
use Rattle.writing.specs.Strokes.{size_of}

-- `b at n`: the number in n bits from `at` on
abbrev pub Inks : (ℕ → ℕ → ℕ) → ℕ → Result Weighed EncodeRefusal → List ℕ → Type 0
Inks b at (Ok (Number n r)) lent = b at n.0 ≡ r % 2 ^ n.0
Inks b at (Ok (Gap n)) lent = Unit {0}
Inks b at (Ok (Text n lead x)) lent = (j : ℕ) → j < length (bytes_by lead n.0 (text_in_lem lent x)) → b (at + 8 * j) 8 ≡ get_or (bytes_by lead n.0 (text_in_lem lent x)) j 0 % 256
Inks b at (Err e) lent = Unit {0}

pub record Holds (p : Payload) (lent : List ℕ) (m : Mark) : Type 0 where
  pub inked : Inks p.bits m.start m.content lent
  pub inside : m.start + (size_of m.content).0 ≤ p.size * 8

-- what was not refused
abbrev pub Kept : Result Weighed EncodeRefusal → Type 0
Kept (Ok w) = Unit {0}
Kept (Err e) = ⊥
