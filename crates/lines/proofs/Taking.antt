-- The rest of a chunk is taken by `feed`, up to a newline or all of it: that is what `next` answers. Assumes nothing.
use mathlib.Core.Path.{◌≡◌, refl, ap, ◌∙◌}
use mathlib.Core.Bool.{Bool, true, false, ◌||◌}
use mathlib.Core.List.{List}
use mathlib.Core.Logic.{◌⊎◌, inl, inr}
use Prim.Native.Nat.{ℕ, ◌+◌, ◌-◌, ◌≤◌, ◌<◌}
use native.Mathlib.Omega.{arith}
use borrow.Author.Tests.{lt-ltb, le-ltb}
use lib.ListN.{length, take, drop, length-drop}
use lib.Seq.{take_all}
use Rattle.lines.specs.Machine.{up_to_newline}
use Rattle.lines.specs.Held.{buffer_after, fed_to}
use Rattle.lines.specs.Steps.{passed_at, stays, piece, took_of, line_after}
use Rattle.lines.specs.declared.Fed.{Fed}
use Rattle.lines.specs.declared.Step.{Step}
use Rattle.lines.proofs.UpTo.{up_le}

pub either : (a b : Bool) → (a ≡ true) ⊎ (b ≡ true) → (a || b) ≡ true
either true b h = refl
either false b (inl e) = let z : ◌≡◌ {A = ℕ} 0 1 = cc in absurd (omega arith)
either false b (inr e) = e

pub neither : (a b : Bool) → a ≡ false → b ≡ false → (a || b) ≡ false
neither a b e f = rw e f

-- where a line waits, or more than all is taken
module _ (p : Step) (line input : List ℕ) (h : stays p input ≡ true) where
  pub stay : p ≡ took_of p line input
  stay = rw h

  pub line_stays : line ≡ line_after p line input
  line_stays = rw h

-- the rest of a chunk, as a slice hands it on
abbrev rest_of : Step → List ℕ → List ℕ
rest_of p input = take (length input - p.taken) (drop p.taken input)

rest : (p : Step) (input : List ℕ) → rest_of p input ≡ drop p.taken input
rest p input = take_all (length input - p.taken) (drop p.taken input) (simp length-drop (omega arith))

module _ (p : Step) (line input : List ℕ) (f : Fed) (h : stays p input ≡ false) (e : f ≡ fed_to p.held line (up_to_newline (rest_of p input))) where
  whole : f ≡ fed_to p.held line (piece p input)
  whole = e ∙ ap (λ (x : List ℕ). fed_to p.held line (up_to_newline x)) (rest p input)

  pub fits_in : p.taken ≤ length input → p.taken + f.taken ≤ length input
  fits_in l = omega (arith, ap (λ (x : Fed). x.taken) whole, up_le (drop p.taken input), length-drop p.taken input)

  pub took-line : p.taken + f.taken < length input → passed_at f.held true (p.taken + f.taken + 1) p.to false ≡ took_of p line input
  took-line l = let less = rw whole at l in rw (h, lt-ltb _ _ less, whole)

  pub took-all : length input ≤ p.taken + f.taken → passed_at f.held false (p.taken + f.taken) p.to true ≡ took_of p line input
  took-all l = let most = rw whole at l in rw (h, le-ltb _ _ most, whole)

  pub line-took : (last : List ℕ) → last ≡ buffer_after p.held line (up_to_newline (rest_of p input)) → last ≡ line_after p line input
  line-took last q = rw h (q ∙ ap (λ (x : List ℕ). buffer_after p.held line (up_to_newline x)) (rest p input))
