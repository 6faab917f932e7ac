-- Any list of calls, each with its chunk and its page: what they take and what they put, all in all.
use Rattle.std.specs.Prelude.{◌≡◌, ℕ, ◌≤◌, ◌<◌, List, [], ◌∷◌, ◌++◌, Bool, false, length, take, drop}
use Rattle.text.specs.Sheet.{sheet, lost}
use Rattle.lines.specs.Machine.{Machine, Passed, passed, pass_of}

-- a call: a chunk of input, a page, and the place on it from which text is put
pub record Call : Type 0 where
  pub chunk : List ℕ
  pub page : List ℕ
  pub place : ℕ

-- the page is one that a machine can have, and the place is on it
abbrev pub Sound : List Call → Type 0
Sound [] = Unit {0}
Sound (c ∷ cs) = ((length c.page < lost) × (c.place ≤ length c.page)) × Sound cs

-- the parts of what a call leaves
abbrev pub held_of : {K : Type 0} → Passed K → K
held_of (passed k w n page to) = k

abbrev pub waits_of : {K : Type 0} → Passed K → Bool
waits_of (passed k w n page to) = w

abbrev pub taken_of : {K : Type 0} → Passed K → ℕ
taken_of (passed k w n page to) = n

abbrev pub page_after : {K : Type 0} → Passed K → List ℕ
page_after (passed k w n page to) = page

abbrev pub place_after : {K : Type 0} → Passed K → ℕ
place_after (passed k w n page to) = to

abbrev pub called : {K : Type 0} → Machine K → K → Bool → Call → Passed K
called m k w c = pass_of m k w c.chunk (sheet c.page c.place)

-- the text that a call puts: what stands on its page from its place up to the place after
abbrev pub put_in : {K : Type 0} → Call → Passed K → List ℕ
put_in c r = drop c.place (take (place_after r) (page_after r))

-- ## Call after call

-- all the text that is put
unfoldable pub put : {K : Type 0} → Machine K → K → Bool → List Call → List ℕ
put m k w [] = []
put m k w (c ∷ cs) = put_in c (called m k w c) ++ put m (held_of (called m k w c)) (waits_of (called m k w c)) cs

-- all the input that is taken
unfoldable pub taken : {K : Type 0} → Machine K → K → Bool → List Call → List ℕ
taken m k w [] = []
taken m k w (c ∷ cs) = take (taken_of (called m k w c)) c.chunk ++ taken m (held_of (called m k w c)) (waits_of (called m k w c)) cs

-- what is held after them all, and whether a line waits
unfoldable pub held_after : {K : Type 0} → Machine K → K → Bool → List Call → K
held_after m k w [] = k
held_after m k w (c ∷ cs) = held_after m (held_of (called m k w c)) (waits_of (called m k w c)) cs

unfoldable pub waits_after : {K : Type 0} → Machine K → K → Bool → List Call → Bool
waits_after m k w [] = w
waits_after m k w (c ∷ cs) = waits_after m (held_of (called m k w c)) (waits_of (called m k w c)) cs

-- ## A chunk, call after call

-- each call is given what the one before it has left of the chunk, and a page from its start on, with room for so many bytes
abbrev pub Rests : {K : Type 0} → Machine K → ℕ → K → Bool → List ℕ → List Call → Type 0
Rests m room k w input [] = Unit {0}
Rests m room k w input (c ∷ cs) =
    ((c.chunk ≡ input) × ((c.place ≡ 0) × ((room ≤ length c.page) × (length c.page < lost))))
    × Rests m room (held_of (called m k w c)) (waits_of (called m k w c)) (drop (taken_of (called m k w c)) input) cs

-- all of a chunk is taken, and no line waits
pub record Drains {K : Type 0} (m : Machine K) (k : K) (w : Bool) (input : List ℕ) (cs : List Call) : Type 0 where
  pub all : taken m k w cs ≡ input
  pub none : waits_after m k w cs ≡ false
