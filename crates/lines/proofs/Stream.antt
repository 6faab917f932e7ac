-- Over any list of calls, whatever their chunks and their pages: all the text that is put, and what is still owed, are what is owed for all the input
-- that is taken. Assumes nothing.
use mathlib.Core.Path.{◌≡◌, refl, sym, ap, ◌∙◌}
use mathlib.Core.Bool.{Bool, false}
use mathlib.Core.List.{List, [], ◌∷◌, ◌++◌, append-nil, append_assoc}
use Prim.Native.Nat.{ℕ}
use lib.ListN.{take}
use Rattle.lines.specs.Machine.{Machine, Passed, text_from, owes}
use Rattle.lines.specs.Calls.{Call, Sound, called, held_of, waits_of, taken_of, put_in, put, taken, held_after, waits_after}
use Rattle.lines.proofs.Conserved.{conserves, put-text}

module _ {K : Type 0} (m : Machine K) where
  pub stream : (k : K) (w : Bool) (cs : List Call) → Sound cs → (more : List ℕ)
      → put m k w cs ++ owes m (held_after m k w cs) (waits_after m k w cs) more ≡ owes m k w (taken m k w cs ++ more)
  unfolding put taken held_after waits_after
  stream k w [] s more = refl
  stream k w (c ∷ cs) s more =
      let r : Passed K = called m k w c in
      let k' : K = held_of r in
      let w' : Bool = waits_of r in
      let rest : List ℕ = taken m k' w' cs in
      append_assoc (put_in c r) (put m k' w' cs) _
      ∙ ap (λ (x : List ℕ). put_in c r ++ x) (stream k' w' cs s.1 more)
      ∙ put-text m k w c.chunk c.page c.place (conserves m k w c.chunk c.page c.place s.0.0 s.0.1) (rest ++ more)
      ∙ ap (owes m k w) (sym (append_assoc (take (taken_of r) c.chunk) rest more))

  -- once no line waits, all that is put is the text of what is taken
  pub printed : (k : K) (cs : List Call) (input : List ℕ) → Sound cs → taken m k false cs ≡ input → waits_after m k false cs ≡ false → put m k false cs ≡ text_from m k input
  unfolding text_from
  printed k cs input s e w =
      let all : List ℕ = put m k false cs in
      sym (append-nil all)
      ∙ ap (λ (t : Bool). all ++ owes m (held_after m k false cs) t []) (sym w)
      ∙ stream k false cs s []
      ∙ ap (text_from m k) (append-nil (taken m k false cs) ∙ e)
