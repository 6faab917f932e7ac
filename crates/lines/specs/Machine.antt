-- A program that answers lines: what it owes for the bytes that it is fed, and what one call of it puts. Document 01, the end of "Cases": "one frame a
-- line"; each line is answered by itself.
use Rattle.std.specs.Prelude.{ℕ, ◌+◌, List, [], ◌∷◌, ◌++◌, Bool, true, false, eqb, leb, length}
use Rattle.bits.specs.Bits.{pick}
use Rattle.text.specs.Sheet.{Sheet, page_of, place_of, put_all}

-- a program by what it holds of a line: with one more byte, at the start of the next line, and the answer to the line once it is whole
pub record Machine (K : Type 0) : Type 0 where
  pub fed : K → ℕ → K
  pub fresh : K → K
  pub answer : K → List ℕ

-- the byte that ends a line
abbrev pub newline : ℕ
newline = 10

-- the bytes before the first newline
unfoldable pub up_to_newline : List ℕ → List ℕ
up_to_newline [] = []
up_to_newline (b ∷ bs) = pick (eqb b newline) [] (b ∷ up_to_newline bs)

-- what is held after some bytes of a line
unfoldable pub feds : {K : Type 0} → Machine K → K → List ℕ → K
feds m k [] = k
feds m k (b ∷ bs) = feds m (m.fed k b) bs

-- the answers to the lines that end in the input; k is held of the first of them
unfoldable pub text_from : {K : Type 0} → Machine K → K → List ℕ → List ℕ
text_from m k [] = []
text_from m k (b ∷ bs) = pick (eqb b newline) (m.answer k ++ text_from m (m.fresh k) bs) (text_from m (m.fed k b) bs)

-- ## The text of an input, by its lines alone

-- a program that holds a line as it is
abbrev pub plain : (List ℕ → List ℕ) → Machine (List ℕ)
plain answered = record { fed = λ line b. line ++ b ∷ []; fresh = λ line. []; answer = answered }

-- whether an input ends within a line
unfoldable pub is_open : Bool → List ℕ → Bool
is_open t [] = t
is_open t (b ∷ bs) = is_open (pick (eqb b newline) false true) bs

-- a last line that lacks its newline gets one
abbrev pub closed : List ℕ → List ℕ
closed input = input ++ pick (is_open false input) (newline ∷ []) []

-- all that is printed for an input: each line's answer, in order
abbrev pub text_of : (List ℕ → List ℕ) → List ℕ → List ℕ
text_of answered input = text_from (plain answered) [] (closed input)

-- ## One call: a chunk of input, and a page to put text on

-- what a call leaves: what is held; whether that is a whole line that waits for its answer; the bytes taken of the chunk; the page, and the place after
-- the text
pub data Passed (K : Type 0) : Type 0 where
  passed : K → Bool → ℕ → List ℕ → ℕ → Passed K

-- whether a text has found room
abbrev pub fits : Sheet → Bool
fits s = leb (place_of s) (length (page_of s))

-- the sheet with a line's answer; where that has found no room the line waits, n bytes are taken and the place is that before it
abbrev pub answered_or : {K : Type 0} → Machine K → K → ℕ → Sheet → (Sheet → Passed K) → Passed K
answered_or m k n s then =
    pick (fits (put_all s (m.answer k))) (then (put_all s (m.answer k))) (passed k true n (page_of (put_all s (m.answer k))) (place_of s))

-- a chunk of which n bytes are taken: its lines are answered as they end, until one of them finds no room or the chunk is all taken
unfoldable pub pass_from : {K : Type 0} → Machine K → K → List ℕ → ℕ → Sheet → Passed K
pass_from m k [] n s = passed k false n (page_of s) (place_of s)
pass_from m k (b ∷ bs) n s = pick (eqb b newline) (answered_or m k (n + 1) s (pass_from m (m.fresh k) bs (n + 1))) (pass_from m (m.fed k b) bs (n + 1) s)

-- a call, from what was held: a line that waits comes first
abbrev pub pass_of : {K : Type 0} → Machine K → K → Bool → List ℕ → Sheet → Passed K
pass_of m k true input s = answered_or m k 0 s (pass_from m (m.fresh k) input 0)
pass_of m k false input s = pass_from m k input 0 s

-- ## What is owed

-- the answers that are still to come, with so much input to come: that of the line that waits first
abbrev pub owes : {K : Type 0} → Machine K → K → Bool → List ℕ → List ℕ
owes m k true input = m.answer k ++ text_from m (m.fresh k) input
owes m k false input = text_from m k input
