-- Both ways through a payload come to the same, so that no line X is put: what is put is the text of the decode. Assumes nothing.
use mathlib.Core.Path.{◌≡◌, refl, sym, ap, ◌∙◌}
use mathlib.Core.Bool.{Bool, true, ◌&&◌}
use mathlib.Core.List.{List, [], ◌++◌, append-nil, flat_map}
use Prim.Native.Nat.{ℕ}
use borrow.Author.Tests.{eq-eqb}
use lib.ListN.{length, get_or}
use lib.Dec.{eqb}
use Rattle.std.specs.Prelude.{Result, Ok, Err}
use Rattle.bits.specs.declared.BitPos.{BitPos}
use Rattle.tables.specs.Table.{Table}
use Rattle.fields.specs.declared.DecodeRefusal.{DecodeRefusal}
use Rattle.fields.specs.Refusals.{number_of, carried_of}
use Rattle.reading.specs.declared.Decoded.{Decoded}
use Rattle.reading.specs.Filling.{run_after}
use Rattle.reading.specs.Decode.{readings_of, decoded_of_lem}
use Rattle.readcalls.specs.Lines.{reading_line, last_line_lem, run_line, decode_text}
use Rattle.readcalls.specs.Alike.{alike_at, alike, is_one_end_lem, is_same_lem, difference_text}

-- ## The test

pub alike-at-by : (a b : DecodeRefusal) (i : ℕ) {x y : ℕ} → x ≡ get_or (carried_of a) i 0 → y ≡ get_or (carried_of b) i 0 → eqb x y ≡ alike_at a b i
alike-at-by a b i e f = rw (e, f)

pub alike-by : (a b : DecodeRefusal) {m n k l : ℕ} {x y z : Bool} → m ≡ number_of a → n ≡ number_of b → k ≡ length (carried_of a) → l ≡ length (carried_of b)
    → x ≡ alike_at a b 0 → y ≡ alike_at a b 1 → z ≡ alike_at a b 2 → (eqb m n && eqb k l && x && y && z) ≡ alike a b
alike-by a b e f g h i j k = rw (e, f, g, h, i, j, k)

itself : (n : ℕ) → eqb n n ≡ true
itself n = eq-eqb n n refl

alike-itself : (e : DecodeRefusal) → alike e e ≡ true
alike-itself e = rw (itself (number_of e), itself (length (carried_of e)), itself (get_or (carried_of e) 0 0), itself (get_or (carried_of e) 1 0), itself (get_or (carried_of e) 2 0))

one-end-itself : (o : Result BitPos DecodeRefusal) → is_one_end_lem o o ≡ true
one-end-itself (Ok end) = itself end.0
one-end-itself (Err e) = alike-itself e

same-itself : (d : Decoded) → is_same_lem d d ≡ true
same-itself d = rw (itself d.count, one-end-itself d.end)

-- ## The text

pub no_difference : {d e : Decoded} {x y : Bool} → x ≡ is_same_lem d e → d ≡ e → y ≡ true → difference_text (x && y) ≡ []
no_difference {d} {e} f g h = let is = f ∙ sym (ap (is_same_lem d) g) ∙ same-itself d in rw (is, h)

pub outcome : (x y : List ℕ) {z : List ℕ} → z ≡ [] → x ++ y ++ z ≡ x ++ y
outcome x y e = ap (λ (z : List ℕ). x ++ y ++ z) e ∙ append-nil (x ++ y)

pub whole-text : (t : Table) (received run : List ℕ) (room : ℕ) {d : Decoded} {run' : List ℕ} → d ≡ decoded_of_lem t received (length run) room → run' ≡ run_after t received run
    → flat_map reading_line (readings_of t received (length run) room) ++ (last_line_lem d ++ run_line run') ≡ decode_text t received run room
whole-text t received run room e f = rw (e, f)
