-- What a contract fixes: the one lemma behind "two answers allowed for an input are equal". Assumes nothing.
use mathlib.Core.Path.{◌≡◌, sym, ◌∙◌}

-- P is a contract: of the lifetimes, the arguments, the answer and the parameters at exit. It fixes what `view` sees of
-- the last two: in two runs on the same arguments that P allows, it sees the same.
abbrev pub Fixes : {K : Type 0} {A X S B : K → Type 0} → ((κs : K) → A κs → X κs → S κs → Type 0) → ((κs : K) → X κs → S κs → B κs) → Type 0
Fixes {K} {A} {X} {S} P view = (κs : K) (a : A κs) (x y : X κs) (s t : S κs) → P κs a x s → P κs a y t → view κs x s ≡ view κs y t

-- the one lemma: a contract that says what is seen as a function of the arguments fixes it
pub fixed : {K : Type 0} {A X S B : K → Type 0} {P : (κs : K) → A κs → X κs → S κs → Type 0} {view : (κs : K) → X κs → S κs → B κs}
    {f : (κs : K) → A κs → B κs}
    → ((κs : K) (a : A κs) (x : X κs) (s : S κs) → P κs a x s → view κs x s ≡ f κs a) → Fixes P view
fixed says κs a x y s t p q = says κs a x s p ∙ sym (says κs a y t q)
