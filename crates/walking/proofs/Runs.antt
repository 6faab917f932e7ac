-- Laws of walks that follow one another. Assumes nothing.
use mathlib.Core.Path.{◌≡◌, refl, sym, ap, ◌∙◌}
use Prim.Native.Nat.{ℕ, zero, suc, ◌+◌, ◌-◌, ◌≤◌, ◌<◌}
use native.Mathlib.Omega.{arith}
use mathlib.Core.List.{List, [], ◌++◌, append-nil, append_assoc}
use Rattle.walking.specs.Runs.{Run, ran, stopped, after, and_then, times}

module _ {W S F : Type 0} where
  pub after-after : (us vs : List W) (w : Run W S F) → after us (after vs w) ≡ after (us ++ vs) w
  unfolding after
  after-after us vs (ran ws s) = rw (append_assoc us vs ws)
  after-after us vs (stopped ws f) = rw (append_assoc us vs ws)

  pub after-nil : (w : Run W S F) → after [] w ≡ w
  unfolding after
  after-nil (ran ws s) = refl
  after-nil (stopped ws f) = refl

  then-after : (us : List W) (w : Run W S F) (k : S → Run W S F) → and_then (after us w) k ≡ after us (and_then w k)
  unfolding after and_then
  then-after us (ran ws s) k = sym (after-after us ws (k s))
  then-after us (stopped ws f) k = refl

  pub then-then : (w : Run W S F) (k l : S → Run W S F) → and_then (and_then w k) l ≡ and_then w (λ s. and_then (k s) l)
  unfolding and_then
  then-then (ran us s) k l = then-after us (k s) l
  then-then (stopped us f) k l = refl

  pub then-ran : (s : S) (k : S → Run W S F) → and_then (ran [] s) k ≡ k s
  unfolding and_then
  then-ran s k = after-nil (k s)

  pub times_more : (n i : ℕ) (f : ℕ → S → Run W S F) (s : S) → i < n → times (n - i) i f s ≡ and_then (f i s) (times (n - suc i) (suc i) f)
  unfolding times
  times_more n i f s l = let e : n - i ≡ suc (n - suc i) = omega arith in rw e

  pub times_none : (n i : ℕ) (f : ℕ → S → Run W S F) (s : S) → n ≤ i → times (n - i) i f s ≡ ran [] s
  unfolding times
  times_none n i f s l = let e : n - i ≡ 0 = omega arith in rw e

  pub times-all : (n : ℕ) (f : ℕ → S → Run W S F) (s : S) → times n 0 f s ≡ times (n - 0) 0 f s
  times-all n f s = let e : n - 0 ≡ n = omega arith in rw e

  then-nil : (w : Run W S F) → and_then w (λ s. ran [] s) ≡ w
  unfolding and_then after
  then-nil (ran us s) = rw (append-nil us)
  then-nil (stopped us f) = refl

  -- the last of them stands alone
  pub times-last : (n i : ℕ) (f : ℕ → S → Run W S F) (s : S) → times (suc n) i f s ≡ and_then (times n i f s) (f (i + n))
  unfolding times
  times-last zero i f s = let e : i ≡ i + 0 = omega arith in then-nil (f i s) ∙ ap (λ (j : ℕ). f j s) e ∙ sym (then-ran s (f (i + 0)))
  times-last (suc n) i f s =
      let e : suc i + n ≡ i + suc n = omega arith in
      ap (and_then (f i s)) (λ x z. times-last n (suc i) f z x)
      ∙ sym (then-then (f i s) (times n (suc i) f) (f (suc i + n)))
      ∙ ap (λ (j : ℕ). and_then (and_then (f i s) (times n (suc i) f)) (f j)) e
