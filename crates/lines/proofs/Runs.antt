-- One call, by induction on its chunk: what it leaves, and that what is put and what is owed after it are what was owed before. Assumes nothing.
use mathlib.Core.Path.{◌≡◌, refl, sym, ap, ◌∙◌}
use mathlib.Core.Bool.{Bool, true, false}
use mathlib.Core.List.{List, [], ◌∷◌, ◌++◌, append_assoc}
use Prim.Native.Nat.{ℕ, suc, ◌+◌, ◌≤◌, ◌<◌}
use native.Mathlib.Omega.{arith}
use borrow.Author.Tests.{leb-true, leb-false}
use lib.Dec.{eqb}
use lib.ListN.{length, take}
use lib.Seq.{take-take}
use Rattle.bits.specs.Bits.{pick}
use Rattle.text.specs.Sheet.{Sheet, sheet, page_of, lost, put_all}
use Rattle.text.proofs.Sheets.{Stands, stands}
use Rattle.lines.specs.Machine.{Machine, Passed, passed, newline, text_from, fits, answered_or, pass_from, pass_of, owes}
use Rattle.lines.specs.Calls.{held_of, waits_of, taken_of, page_after, place_after}
use Rattle.lines.proofs.Owing.{owes-line, owes-byte}

-- a call that starts with n bytes taken already, and the chunk's rest xs: it takes `count` bytes of that
pub record Runs {K : Type 0} (m : Machine K) (k : K) (w : Bool) (xs : List ℕ) (n : ℕ) (old : List ℕ) (at : ℕ) (r : Passed K) : Type 0 where
  pub size : length (page_after r) ≡ length old
  pub grows : at ≤ place_after r
  pub inside : place_after r ≤ length old
  pub kept : take at (page_after r) ≡ take at old
  pub count : ℕ
  pub counts : taken_of r ≡ n + count
  pub few : count ≤ length xs
  pub took : (more : List ℕ) → take (place_after r) (page_after r) ++ owes m (held_of r) (waits_of r) more ≡ take at old ++ owes m k w (take count xs ++ more)
  pub done : waits_of r ≡ false → count ≡ length xs
  pub full : waits_of r ≡ true → length old < place_after r + length (m.answer (held_of r))
  -- a line that waited, and has room for its answer, is answered
  pub first : w ≡ true → at + length (m.answer k) ≤ length old → at + length (m.answer k) ≤ place_after r

module _ {K : Type 0} (m : Machine K) (k : K) where
  none : (n : ℕ) (old : List ℕ) (at : ℕ) → at ≤ length old → Runs m k false [] n old at (passed k false n old at)
  none n old at h = record {
    size = refl;
    grows = omega arith;
    inside = h;
    kept = refl;
    count = 0;
    counts = omega arith;
    few = omega arith;
    took = λ more. refl;
    done = λ e. refl;
    full = λ e. let z : ◌≡◌ {A = ℕ} 0 1 = cc in absurd (omega arith);
    first = λ e. let z : ◌≡◌ {A = ℕ} 0 1 = cc in absurd (omega arith);
  }

  -- one byte before
  after-byte : (b : ℕ) (bs : List ℕ) (k₁ : K) (w₁ : Bool) (n : ℕ) (old : List ℕ) (at : ℕ) (r : Passed K) → ((more : List ℕ) → text_from m k (b ∷ more) ≡ owes m k₁ w₁ more)
      → Runs m k₁ w₁ bs (n + 1) old at r → Runs m k false (b ∷ bs) n old at r
  after-byte b bs k₁ w₁ n old at r e h = record {
    size = h.size;
    grows = h.grows;
    inside = h.inside;
    kept = h.kept;
    count = suc h.count;
    counts = omega (arith, h.counts);
    few = omega (arith, h.few);
    took = λ more. h.took more ∙ ap (λ (x : List ℕ). take at old ++ x) (sym (e (take h.count bs ++ more)));
    done = λ w. ap suc (h.done w);
    full = h.full;
    first = λ w. let z : ◌≡◌ {A = ℕ} 0 1 = cc in absurd (omega arith);
  }

  -- a line waits: by whether its answer finds room
  answers : (xs : List ℕ) (n : ℕ) (old : List ℕ) (at : ℕ) (mid : List ℕ) (by : ℕ) (t : Bool) (r : Passed K) → at ≤ length old → Stands old at (m.answer k) mid by → fits (sheet mid by) ≡ t
      → (by ≤ length mid → Runs m (m.fresh k) false xs n mid by r) → Runs m k true xs n old at (pick t r (passed k true n mid at))
  answers xs n old at mid by true r h s e later =
      let on = leb-true by (length mid) e in
      let size = s.size in
      let whole = s.whole (omega arith) in
      let g = later on in
      let up : at ≤ by = omega (arith, whole.0) in
      record {
        size = g.size ∙ size;
        grows = omega (arith, g.grows, whole.0);
        inside = omega (arith, g.inside);
        kept = sym (take-take at by (page_after r) up) ∙ ap (take at) g.kept ∙ take-take at by mid up ∙ s.kept;
        count = g.count;
        counts = g.counts;
        few = g.few;
        took = λ more. g.took more ∙ ap (λ (x : List ℕ). x ++ text_from m (m.fresh k) (take g.count xs ++ more)) whole.1 ∙ append_assoc (take at old) (m.answer k) _;
        done = g.done;
        full = λ w. omega (arith, g.full w);
        first = λ w l. omega (arith, g.grows, whole.0);
      }
  answers xs n old at mid by false r h s e later =
      let off = leb-false by (length mid) e in
      let size = s.size in
      record {
        size = size;
        grows = omega arith;
        inside = h;
        kept = s.kept;
        count = 0;
        counts = omega arith;
        few = omega arith;
        took = λ more. ap (λ (x : List ℕ). x ++ owes m k true more) s.kept;
        done = λ w. let z : ◌≡◌ {A = ℕ} 0 1 = cc in absurd (omega arith);
        full = λ w. let none : at + length (m.answer k) ≤ length old → ⊥ = λ l. omega (arith, s.room l) in omega arith;
        first = λ w l. absurd (omega (arith, s.room l));
      }

  waits : (xs : List ℕ) (n : ℕ) (old : List ℕ) (at : ℕ) → length old < lost → at ≤ length old
      → ((mid : List ℕ) (by : ℕ) → length mid < lost → by ≤ length mid → Runs m (m.fresh k) false xs n mid by (pass_from m (m.fresh k) xs n (sheet mid by)))
      → Runs m k true xs n old at (answered_or m k n (sheet old at) (pass_from m (m.fresh k) xs n))
  waits xs n old at l h later = go (put_all (sheet old at) (m.answer k)) refl
    where
      go : (s : Sheet) → s ≡ put_all (sheet old at) (m.answer k) → Runs m k true xs n old at (pick (fits s) (pass_from m (m.fresh k) xs n s) (passed k true n (page_of s) at))
      go (sheet mid by) e =
          let s = stands l (record { is = e }) in
          let size = s.size in
          answers xs n old at mid by (fits (sheet mid by)) _ h s refl (λ on. later mid by (omega arith) on)

  by-newline : (b : ℕ) (bs : List ℕ) (n : ℕ) (old : List ℕ) (at : ℕ) (t : Bool) → eqb b newline ≡ t → (r₁ r₂ : Passed K) → Runs m k true bs (n + 1) old at r₁
      → Runs m (m.fed k b) false bs (n + 1) old at r₂ → Runs m k false (b ∷ bs) n old at (pick t r₁ r₂)
  by-newline b bs n old at true e r₁ r₂ line byte = after-byte b bs k true n old at r₁ (λ more. owes-line m k b more e) line
  by-newline b bs n old at false e r₁ r₂ line byte = after-byte b bs (m.fed k b) false n old at r₂ (λ more. owes-byte m k b more e) byte

runs-from : {K : Type 0} (m : Machine K) (xs : List ℕ) (k : K) (n : ℕ) (old : List ℕ) (at : ℕ) → length old < lost → at ≤ length old
    → Runs m k false xs n old at (pass_from m k xs n (sheet old at))
unfolding pass_from
runs-from m [] k n old at l h = none m k n old at h
runs-from m (b ∷ bs) k n old at l h =
    by-newline m k b bs n old at (eqb b newline) refl _ _ (waits m k bs (n + 1) old at l h (λ mid by. runs-from m bs (m.fresh k) (n + 1) mid by))
    (runs-from m bs (m.fed k b) (n + 1) old at l h)

pub runs : {K : Type 0} (m : Machine K) (k : K) (w : Bool) (input old : List ℕ) (at : ℕ) → length old < lost → at ≤ length old
    → Runs m k w input 0 old at (pass_of m k w input (sheet old at))
runs m k true input old at l h = waits m k input 0 old at l h (λ mid by. runs-from m input (m.fresh k) 0 mid by)
runs m k false input old at l h = runs-from m input k 0 old at l h
