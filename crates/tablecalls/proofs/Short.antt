-- No table in words has more bytes than the line's buffer: 200 words of 16 digits, and the spaces between them. So a line that is too long is answered as it would be
-- with any buffer. Assumes nothing.
use mathlib.Core.Path.{◌≡◌, refl, sym, ap}
use mathlib.Core.Bool.{Bool, true, false, ◌&&◌}
use mathlib.Core.List.{List, [], ◌∷◌, ◌++◌}
use Prim.Native.Nat.{ℕ, suc, ◌+◌, ◌*◌, ◌^◌, ◌≤◌, ◌<◌}
use native.Mathlib.Omega.{arith}
use borrow.Author.Tests.{leb-true, leb-false}
use lib.Dec.{eqb, leb, ltb}
use lib.ListN.{length}
use Rattle.std.specs.Prelude.{is_some}
use Rattle.bits.specs.Bits.{pick}
use Rattle.hexadecimal.proofs.Inverse.{both}
use Rattle.text.specs.Refusals.{malformed_text}
use Rattle.columns.specs.Parts.{space, longer, parts_of}
use Rattle.columns.specs.Numbers.{hex_digits, number_if, all_below, spelled_in, number_in, hex_in}
use Rattle.columns.specs.Runs.{all_numbers, values_of}
use Rattle.lines.specs.Machine.{newline}
use Rattle.lines.specs.Held.{capped}
use Rattle.tables.specs.Table.{table_of}
use Rattle.tables.specs.Check.{check_of}
use Rattle.tablecalls.specs.Answers.{words_max, checked_text, is_table, answered, line_max}

-- the bytes of all parts, and one for each
unfoldable total : List (List ℕ) → ℕ
total [] = 0
total (p ∷ ps) = suc (length p) + total ps

longer-total : (b : ℕ) (ps : List (List ℕ)) (n : ℕ) → total ps ≡ suc n → total (longer b ps) ≡ suc (suc n)
unfolding total
longer-total b [] n e = absurd (omega arith)
longer-total b (p ∷ ps) n e = omega arith

-- a text is its parts, with a mark after each but the last
parts-total : (mark : ℕ) (s : List ℕ) → total (parts_of mark s) ≡ suc (length s)
unfolding total parts_of
parts-total mark [] = refl
parts-total mark (b ∷ bs) = go (eqb b mark) (parts-total mark bs)
  where
    go : (t : Bool) → total (parts_of mark bs) ≡ suc (length bs) → total (pick t ([] ∷ parts_of mark bs) (longer b (parts_of mark bs))) ≡ suc (suc (length bs))
    go true e = omega arith
    go false e = longer-total b (parts_of mark bs) (length bs) e

-- a number has at most 16 digits
if-good : (t : Bool) (n : ℕ) → is_some (number_if t n) ≡ true → t ≡ true
if-good true n e = refl
if-good false n e = e

good-size : (s : List ℕ) → is_some (hex_in s) ≡ true → length s ≤ hex_digits
unfolding number_in
good-size s e =
    let some = ltb 0 (length s) in
    let few = leb (length s) hex_digits in
    let digits = all_below 16 s in
    let small = ltb (spelled_in 16 0 s) (2 ^ 64) in
    let all = (both (some && few && digits) small (if-good (some && few && digits && small) (spelled_in 16 0 s) e)).0 in
    leb-true (length s) hex_digits (both some few (both (some && few) digits all).0).1

numbers-size : (ps : List (List ℕ)) → all_numbers ps ≡ true → total ps ≤ length ps * suc hex_digits
unfolding total all_numbers
numbers-size [] e = omega arith
numbers-size (p ∷ ps) e = let h = both (is_some (hex_in p)) (all_numbers ps) e in omega (arith, good-size p h.0, numbers-size ps h.1)

-- a table in words fits the buffer
table-size : (line : List ℕ) → is_table line ≡ true → length line ≤ line_max
table-size line e =
    let ps = parts_of space line in
    let h = both (all_numbers ps) (leb (length ps) words_max) e in
    omega (arith, parts-total space line, numbers-size ps h.0, leb-true (length ps) words_max h.1)

-- a line that does not is answered as an empty one is
no_table : (line : List ℕ) (t : Bool) → is_table line ≡ t → line_max < length line → answered [] ≡ answered line
unfolding answered parts_of all_numbers number_in
no_table line true e long = absurd (omega (arith, table-size line e))
no_table line false e long = ap (λ (t : Bool). pick t (checked_text (check_of (table_of (values_of (parts_of space line))))) malformed_text ++ newline ∷ []) (sym e)

pub uncapped : (line : List ℕ) → capped line_max answered line ≡ answered line
uncapped line = go (leb (length line) line_max) refl
  where
    go : (t : Bool) → leb (length line) line_max ≡ t → answered (pick t line []) ≡ answered line
    go true e = refl
    go false e = no_table line (is_table line) refl (leb-false (length line) line_max e)
