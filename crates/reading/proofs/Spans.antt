-- Spans that start where the one before ends: they cover each bit once, and their end is the sum of their bits. Assumes nothing.
use mathlib.Core.Path.{◌≡◌, refl, sym, subst}
use Prim.Native.Nat.{ℕ, ◌+◌, ◌≤◌, ◌<◌}
use native.Mathlib.Omega.{arith}
use mathlib.Core.Bool.{Bool, true, false, ◌&&◌}
use mathlib.Core.List.{List, [], ◌∷◌, ◌++◌}
use lib.Dec.{leb, ltb}
use borrow.Author.Tests.{ltb-true, ltb-false, le-leb, lt-leb, le-ltb}
use Rattle.bits.specs.Bits.{pick}
use Rattle.walking.proofs.Visits.{All}
use Rattle.reading.specs.declared.Span.{Span}
use Rattle.reading.specs.Demand3.{past, Chain, holds, holding, total}

pub chain-append : (a m b : ℕ) (us vs : List Span) → Chain a us m → Chain m vs b → Chain a (us ++ vs) b
chain-append a m b [] vs p q = subst (λ (x : ℕ). Chain x vs b) (sym p) q
chain-append a m b (u ∷ us) vs p q = (p.0, chain-append (past u) m b us vs p.1 q)

-- no bit before the first span
before : (a : ℕ) (vs : List Span) (b i : ℕ) → Chain a vs b → i < a → holding vs i ≡ 0
unfolding holding
before a [] b i h l = refl
before a (v ∷ vs) b i h l = rw (lt-leb v.start.0 i (omega (arith, h.0)), before (past v) vs b i h.1 (omega (arith, h.0)))

-- a bit past its start is in the first span or in one of the others
later : (v : Span) (i n : ℕ) → v.start.0 ≤ i → (i < past v → n ≡ 0) → (past v ≤ i → n ≡ 1) → pick (holds v i) 1 0 + n ≡ 1
later v i n l h k = go (ltb i (past v)) refl
  where
    go : (b : Bool) → ltb i (past v) ≡ b → pick (leb v.start.0 i && ltb i (past v)) 1 0 + n ≡ 1
    go true q = rw (le-leb v.start.0 i l, q, h (ltb-true i (past v) q))
    go false q = rw (le-leb v.start.0 i l, q, k (ltb-false i (past v) q))

pub once : (a : ℕ) (vs : List Span) (b i : ℕ) → Chain a vs b → a ≤ i → i < b → holding vs i ≡ 1
unfolding holding
once a [] b i h l u = omega arith
once a (v ∷ vs) b i h l u = later v i (holding vs i) (omega (arith, h.0)) (before (past v) vs b i h.1) (λ m. once (past v) vs b i h.1 m u)

pub ends-after : (a : ℕ) (vs : List Span) (b : ℕ) → Chain a vs b → a ≤ b
ends-after a [] b h = omega arith
ends-after a (v ∷ vs) b h = let l = ends-after (past v) vs b h.1 in omega (arith, h.0)

-- none from the end on
pub none : (a : ℕ) (vs : List Span) (b i : ℕ) → Chain a vs b → b ≤ i → holding vs i ≡ 0
unfolding holding
none a [] b i h l = refl
none a (v ∷ vs) b i h l =
    let m = ends-after (past v) vs b h.1 in
    rw (le-leb v.start.0 i (omega (arith, h.0)), le-ltb i (past v) (omega arith), none (past v) vs b i h.1 l)

-- the sum of the bits is the way from the start to the end
pub sum : (a : ℕ) (vs : List Span) (b : ℕ) → Chain a vs b → b ≡ a + total vs
unfolding total
sum a [] b h = omega arith
sum a (v ∷ vs) b h = let e = sum (past v) vs b h.1 in omega (arith, h.0)

-- what stands before a span ends before it ..
pub chain-before : (a : ℕ) (us : List Span) (v : Span) (ws : List Span) (b : ℕ) → Chain a (us ++ v ∷ ws) b
    → (a ≤ v.start.0) × All (λ (u : Span). past u ≤ v.start.0) us × Chain (past v) ws b
chain-before a [] v ws b h = (omega (arith, h.0), tt, h.1)
chain-before a (u ∷ us) v ws b h = let k = chain-before (past u) us v ws b h.1 in (omega (arith, h.0, k.0), (k.0, k.1), k.2)

-- .. and what follows starts after it
pub chain-after : (m a : ℕ) (ws : List Span) (b : ℕ) → m ≤ a → Chain a ws b → All (λ (w : Span). m ≤ w.start.0) ws
chain-after m a [] b l h = tt
chain-after m a (w ∷ ws) b l h = (omega (arith, h.0), chain-after m (past w) ws b (omega (arith, h.0)) h.1)
