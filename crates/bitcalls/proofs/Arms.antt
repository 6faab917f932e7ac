-- A call by its name, by its arm of a match, and by its COUNT. Assumes nothing.
use mathlib.Core.Path.{◌≡◌, sym, ap, ◌∙◌}
use mathlib.Core.List.{List}
use Prim.Native.Nat.{ℕ, ◌≤◌, ◌<◌}
use borrow.Author.Tests.{eq-eqb, ne_eqb, le-leb, lt-leb}
use lib.ListN.{get_or}
use Rattle.text.specs.Refusals.{malformed_text}
use Rattle.columns.specs.Parts.{space, field, marks_in}
use Rattle.columns.specs.Names.{place_in}
use Rattle.bits.specs.declared.Cursor.{Cursor}
use Rattle.bitcalls.specs.Names.{names, calls, call_of, spaces_of_lem, count_max_lem}
use Rattle.bitcalls.specs.Answers.{call_text, counted_text, form_text}
use Rattle.bitcalls.specs.declared.names.Call.{Call}
use Rattle.bitcalls.specs.declared.names.Call.TheVariants.{Unknown}

-- the call at a name's place
pub named : (name : List ℕ) {n : ℕ} {r : Call} → r ≡ get_or calls n Unknown → n ≡ place_in name names → r ≡ call_of name
unfolding call_of
named name e f = e ∙ ap (λ (n : ℕ). get_or calls n Unknown) f

module _ (c : Cursor) (s : List ℕ) (n : ℕ) where
  module _ (value : List ℕ) (x : Call) where
    pub uncounted : count_max_lem x < n → malformed_text ≡ counted_text x c s n value
    uncounted l = rw (lt-leb n (count_max_lem x) l)

    pub arm : n ≤ count_max_lem x → {y : Call} → x ≡ y → call_text y c s n value ≡ counted_text x c s n value
    arm l e = rw (le-leb n (count_max_lem x) l) (sym (ap (λ (z : Call). call_text z c s n value) e))

    -- a width, in 32 bits
    pub narrow-arm : n ≤ count_max_lem x → {y : Call} → x ≡ y → count_max_lem y ≡ 0xffff_ffff → {m : ℕ} → (n ≤ 0xffff_ffff → m ≡ n) → call_text y c s m value ≡ counted_text x c s n value
    narrow-arm l e k f = let few : n ≤ 0xffff_ffff = rw (e, k) at l in rw (f few) (arm l e)

  module _ (line : List ℕ) {x : Call} (e : x ≡ call_of (field line 0)) {spaces : ℕ} (f : spaces ≡ marks_in space line) where
    pub no-form : (spaces ≡ spaces_of_lem x → ⊥) → malformed_text ≡ form_text line c s n
    no-form h = rw (← e, ← f, ne_eqb spaces (spaces_of_lem x) h)

    pub form : spaces ≡ spaces_of_lem x → {value : List ℕ} → value ≡ field line 4 → counted_text x c s n value ≡ form_text line c s n
    form h v = rw (← e, ← f, eq-eqb spaces (spaces_of_lem x) h, v)
