-- Counters noted at the end of a stretch: the fields before its last one count nothing. Assumes nothing.
use mathlib.Core.Path.{◌≡◌, refl, sym, ap, ◌∙◌, subst}
use mathlib.Core.Logic.{⊎_elim}
use mathlib.Core.Bool.{Bool}
use mathlib.Core.List.{List, [], ◌∷◌, ◌++◌, append-nil, append_assoc}
use Prim.Native.Nat.{ℕ, zero, suc, ◌+◌, ◌-◌, ◌≤◌, ◌<◌, min}
use native.Mathlib.Omega.{arith}
use lib.ListN.{length-append, set}
use borrow.Author.Tests.{ne_eqb}
use Rattle.walking.specs.Walk.{Element}
use Rattle.std.specs.Prelude.{Option, Some, None}
use Rattle.bits.specs.Bits.{pick}
use Rattle.bits.proofs.Written.{below}
use Rattle.tables.specs.Table.{Table}
use Rattle.tables.specs.Check.{set_max}
use Rattle.fields.specs.Payload.{Payload}
use Rattle.reading.specs.declared.Reading.{Reading}
use Rattle.reading.specs.declared.Progress.{Progress}
use Rattle.reading.specs.Groups.{noted_to, noted_by_lem}
use Rattle.reading.specs.Decode.{progress_at, readings}
use Rattle.records.specs.Stretches.{UpTo, Quiet, stored, Field, Hits, none, more, Ran, stretch_at, Runs}
use Rattle.records.proofs.Quickly.{stored-then, ran-none, ran-more}

-- ## Which fields count nothing

module _ (t : Table) (i r : ℕ) (cs : List ℕ) where
  unnoted : (m : ℕ) → ((k : ℕ) → k < m → (t.set k).counter ≡ i → ⊥) → noted_to t i r cs m ≡ cs
  unfolding noted_to
  unnoted zero h = refl
  unnoted (suc m) h =
      ap (λ (b : Bool). pick b (set (noted_to t i r cs m) m r) (noted_to t i r cs m)) (ne_eqb _ _ (h m (omega arith)))
      ∙ unnoted m (λ k l. h k (omega arith))

-- nothing was read
pub absent : (t : Table) (e : Element) (i : ℕ) (cs : List ℕ) → noted_by_lem t e i None cs ≡ cs
absent t None i cs = refl
absent t (Some e) i cs = refl

-- an element's fields
pub quiet-in : (t : Table) (e i r : ℕ) → Quiet t (Some e) i r
quiet-in t e i r = record { all = λ j l u x cs. refl }

module _ (t : Table) (i end : ℕ) where
  -- none of the fields from i up to r is a counter of the first m sets, but for the last of them
  pub record Quiets (m r : ℕ) : Type 0 where
    pub some : i < r
    pub below : r ≤ end
    pub sets : (k : ℕ) → k < m → (j : ℕ) → i ≤ j → j + 1 < r → (t.set k).counter ≡ j → ⊥

  pub quiets-none : i < end → Quiets 0 end
  quiets-none l = record { some = l; below = omega arith; sets = λ k h. absurd (omega arith) }

  -- one set more
  pub quiets-more : {k c r r' : ℕ} → Quiets k r → c ≡ (t.set k).counter → UpTo c i r r' → Quiets (k + 1) r'
  quiets-more {k} {c} {r} {r'} s e u =
      let b = u.below in
      let d = s.below in
      record {
        some = u.some;
        below = omega arith;
        sets = λ x l j a h q. ⊎_elim (λ (g : x < k). s.sets x g j a (omega arith) q) (λ (g : k ≤ x). let y : x ≡ k = omega arith in u.all j a h (e ∙ ap (λ (n : ℕ). (t.set n).counter) (sym y) ∙ q)) (below x k);
      }

  -- all of them
  pub quiets-all : {m r : ℕ} → Quiets m r → m ≡ t.sets → Quiet t None i r
  quiets-all {m} {r} s e = record { all = λ j a h x cs. by j a h x cs }
    where
      by : (j : ℕ) → i ≤ j → j + 1 < r → (x : Option ℕ) (cs : List ℕ) → noted_by_lem t None j x cs ≡ cs
      by j a h None cs = refl
      by j a h (Some y) cs = unnoted t j y cs (min t.sets set_max) (λ k l. s.sets k (omega (arith, e, l)) j a h)

-- ## Stretches one after another

module _ (t : Table) (p : Payload) (room : ℕ) (e : Element) where
  hits_then : (i₀ : ℕ) (s₀ : Progress) (rs : List Reading) (i : ℕ) (s : Progress) {qs : List Reading} {k : ℕ} {z : Progress} → Hits t p room e i₀ s₀ rs i s → Hits t p room e i s qs k z
      → Hits t p room e i₀ s₀ (rs ++ qs) k z
  hits_then i₀ s₀ rs i s g none = subst (λ (l : List Reading). Hits t p room e i₀ s₀ l i s) (sym (append-nil rs)) g
  hits_then i₀ s₀ rs i s g (more qs k x v z h o) =
      subst (λ (l : List Reading). Hits t p room e i₀ s₀ l (k + 1) z) (append_assoc rs qs (readings t p (v ∷ []))) (more (rs ++ qs) k x v z (hits_then i₀ s₀ rs i s g h) o)

  pub ran_then : (from end : ℕ) (s : Progress) (out : List ℕ) (i : ℕ) (z : Progress) (out₁ : List ℕ) (to j : ℕ) (y : Progress) (out₂ : List ℕ)
      → Ran t p room e from end s out i z out₁ → Ran t p room e i to z out₁ j y out₂ → to ≤ end → Ran t p room e from end s out j y out₂
  ran_then from end s out i z out₁ to j y out₂ g h l =
      let a = length-append g.readings h.readings in
      record {
        readings = g.readings ++ h.readings;
        hits = hits_then from s g.readings i z g.hits h.hits;
        made = omega (arith, a, g.made, h.made);
        puts = h.puts ∙ ap (λ (x : List ℕ). stored x z.made h.readings) g.puts ∙ stored-then out s.made z.made g.readings h.readings g.made;
        low = omega (arith, g.low, h.low);
        high = omega (arith, h.high, l);
      }

-- ## The last field still to be noted

module _ (t : Table) (p : Payload) (room : ℕ) (e : Element) (from end at₀ made₀ : ℕ) (out₀ : List ℕ) where
  abbrev pub Comes : ℕ → ℕ → ℕ → List ℕ → List ℕ → List ℕ → Type 0
  Comes i at made cs ds out = Ran t p room e from end (progress_at at₀ made₀ cs) out₀ i (progress_at at made ds) out

  pub record Passing (i at made : ℕ) (x : Option ℕ) (out : List ℕ) : Type 0 where
    pub runs : (cs : List ℕ) → Comes i at made cs (noted_by_lem t e (i - 1) x cs) out
    pub still : i < end → (cs : List ℕ) → noted_by_lem t e (i - 1) x cs ≡ cs

  pub passing-none : from < end → Passing from at₀ made₀ None out₀
  passing-none l =
      record {
        runs = λ cs. subst (λ (ds : List ℕ). Comes from at₀ made₀ cs ds out₀) (sym (absent t e (from - 1) cs)) (ran-none t p room e from end (progress_at at₀ made₀ cs) out₀ (omega (arith, l)));
        still = λ h cs. absent t e (from - 1) cs;
      }

  -- nothing is to be noted before the end
  before : (i at made : ℕ) (x : Option ℕ) (out : List ℕ) → Passing i at made x out → i < end → (cs : List ℕ) → Comes i at made cs cs out
  before i at made x out h l cs = subst (λ (ds : List ℕ). Comes i at made cs ds out) (h.still l cs) (h.runs cs)

  pub passing-more : (i at made : ℕ) (x : Option ℕ) (out : List ℕ) → Passing i at made x out → i < end → Quiet t e from end → (n k : ℕ) (count : List ℕ → List ℕ) (y : Option ℕ)
      → ((cs : List ℕ) → count cs ≡ noted_by_lem t e i y cs) → (out' : List ℕ) → Field t p room i e at made out n k count out' → Passing (i + 1) (at + n) (made + k) y out'
  passing-more i at made x out h l q n k count y same out' d =
      let u : i ≡ i + 1 - 1 = omega arith in
      let low = (h.runs []).low in
      record {
        runs = λ cs. subst (λ (ds : List ℕ). Comes (i + 1) (at + n) (made + k) cs ds out') (same cs ∙ ap (λ (j : ℕ). noted_by_lem t e j y cs) u)
            (ran-more t p room e from end (progress_at at₀ made₀ cs) out₀ i at made cs out out' n k count (before i at made x out h l cs) l d);
        still = λ m cs. ap (λ (j : ℕ). noted_by_lem t e j y cs) (sym u) ∙ q.all i low m y cs;
      }

  pub runs-stop : (i at made : ℕ) (x : Option ℕ) (out : List ℕ) → Passing i at made x out → i < end → Runs t p room e from end at₀ made₀ out₀ (stretch_at i at made None) out
  runs-stop i at made x out h l =
      record { all = λ cs. subst (λ (ds : List ℕ). Comes i at made cs ds out) (sym (absent t e (end - 1) cs)) (before i at made x out h l cs) }

  pub runs-end : (i at made : ℕ) (x : Option ℕ) (out : List ℕ) → Passing i at made x out → end ≤ i → Runs t p room e from end at₀ made₀ out₀ (stretch_at i at made x) out
  runs-end i at made x out h l =
      let high = (h.runs []).high in
      let u : i ≡ end = omega (arith, high, l) in
      record { all = λ cs. subst (λ (j : ℕ). Comes i at made cs (noted_by_lem t e (j - 1) x cs) out) u (h.runs cs) }
