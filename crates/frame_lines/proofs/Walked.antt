-- A walk that is printed turn by turn, each reading by any text of it: the texts of the readings handed out so far stand on the page, and after the last
-- turn those of all. Then the same with the lines of this crate, and the last line. Assumes nothing.
use mathlib.Core.Path.{◌≡◌, refl, sym, ap, ◌∙◌}
use mathlib.Core.Bool.{true, false}
use mathlib.Core.List.{List, [], ◌∷◌, ◌++◌, append-nil, append_assoc, flat_map}
use Prim.Native.Nat.{ℕ}
use native.Mathlib.Omega.{arith}
use Rattle.std.specs.Prelude.{Result, Ok, Err}
use Rattle.text.specs.declared.pages.Page.{Page}
use Rattle.text.specs.Sheet.{PutsOn}
use Rattle.text.proofs.Putting.{nothing, then, same}
use Rattle.tables.specs.Table.{Table}
use Rattle.walking.proofs.Machine.{stands-begin}
use Rattle.fields.specs.declared.DecodeRefusal.{DecodeRefusal}
use Rattle.fields.specs.Payload.{Payload}
use Rattle.reading.specs.declared.Reading.{Reading}
use Rattle.reading.specs.declared.Walk.{Walk}
use Rattle.reading.specs.declared.Answer.{Answer}
use Rattle.reading.specs.declared.Answer.TheVariants.{Met, Skipped, Moved, Ended}
use Rattle.reading.specs.declared.Next.{Next}
use Rattle.reading.specs.Groups.{too_many}
use Rattle.reading.specs.Decode.{one_of, count_of, beginning, readings}
use Rattle.reading.specs.Steps.{start_of, goes_on_lem, handed}
use Rattle.reading.proofs.Looped.{Going, Turned, all, whole}
use Rattle.frame_lines.specs.Lines.{reading_line}
use Rattle.frame_lines.specs.Decode.{last_line_lem, walk_text, turn_text}

-- the last turn hands out nothing
none-handed : (a : Result Answer DecodeRefusal) → goes_on_lem a ≡ false → handed a ≡ []
none-handed (Ok (Met r)) o = let y : ◌≡◌ {A = ℕ} 0 1 = cc in absurd (omega arith)
none-handed (Ok (Skipped v)) o = refl
none-handed (Ok Moved) o = refl
none-handed (Ok Ended) o = refl
none-handed (Err f) o = refl

module _ (text : Reading → List ℕ) where
  texts-append : (rs qs : List Reading) → flat_map text (rs ++ qs) ≡ flat_map text rs ++ flat_map text qs
  unfolding flat_map
  texts-append [] qs = refl
  texts-append (r ∷ rs) qs = ap (λ (x : List ℕ). text r ++ x) (texts-append rs qs) ∙ sym (append_assoc (text r) (flat_map text rs) (flat_map text qs))

  module _ (t : Table) (p : Payload) (room : ℕ) where
    -- a walk has come so far, and the texts of its readings stand on the page
    pub record Printed (old new : Page) (w : Walk) : Type 0 where
      pub going : Going t p room w
      pub puts : PutsOn old (flat_map text (readings t p going.done)) new

    pub begins : (page : Page) → Printed page page start_of
    unfolding readings flat_map
    begins page = record {
      going = record { done = []; stands = stands-begin t (one_of t p room) (count_of t p) too_many beginning; made = refl; bounded = tt };
      puts = nothing page;
    }

    module _ {old mid new : Page} {w : Walk} {n : Next} (q : Printed old mid w) (u : Turned t p room w q.going n) where
      -- a turn that is not the last, with the text of the reading that it hands out, if it does
      pub goes : goes_on_lem n.answer ≡ true → PutsOn mid (flat_map text (handed n.answer)) new → Printed old new n.walk
      goes o x =
          let g = u.on o in
          record { going = g.still; puts = same (sym (texts-append (readings t p q.going.done) (handed n.answer)) ∙ ap (flat_map text) (sym g.hands)) (then q.puts x) }

      -- the last one, with any text
      pub over : goes_on_lem n.answer ≡ false → {last : List ℕ} → PutsOn mid last new → PutsOn old (flat_map text (all t p room) ++ last) new
      over o {last} x = same (ap (λ (rs : List Reading). flat_map text rs ++ last) (sym (u.last o))) (then q.puts x)

      -- .. with that of the reading that it hands out, which is none
      pub ended : goes_on_lem n.answer ≡ false → PutsOn mid (flat_map text (handed n.answer)) new → PutsOn old (flat_map text (all t p room)) new
      unfolding flat_map
      ended o x = same (append-nil (flat_map text (all t p room))) (over o (same (ap (flat_map text) (none-handed n.answer o)) x))

-- ## The lines of this crate

-- a turn that is not the last has the line of the reading that it hands out, if it does
pub turn_lines : (a : Result Answer DecodeRefusal) (end : ℕ) → goes_on_lem a ≡ true → turn_text a end ≡ flat_map reading_line (handed a)
unfolding flat_map
turn_lines (Ok (Met r)) end o = sym (append-nil (reading_line r))
turn_lines (Ok (Skipped v)) end o = refl
turn_lines (Ok Moved) end o = refl
turn_lines (Ok Ended) end o = let y : ◌≡◌ {A = ℕ} 0 1 = cc in absurd (omega arith)
turn_lines (Err f) end o = let y : ◌≡◌ {A = ℕ} 0 1 = cc in absurd (omega arith)

module _ (t : Table) (p : Payload) (room : ℕ) where
  -- the last line: the end, or the refusal
  last_line : (w : Walk) (g : Going t p room w) (n : Next) → Turned t p room w g n → goes_on_lem n.answer ≡ false → turn_text n.answer n.walk.progress.at.0 ≡ last_line_lem (whole t p room)
  last_line w g n u o = go n.answer refl o
    where
      go : (a : Result Answer DecodeRefusal) → n.answer ≡ a → goes_on_lem a ≡ false → turn_text a n.walk.progress.at.0 ≡ last_line_lem (whole t p room)
      go (Ok (Met r)) e h = let y : ◌≡◌ {A = ℕ} 0 1 = cc in absurd (omega arith)
      go (Ok (Skipped v)) e h = let y : ◌≡◌ {A = ℕ} 0 1 = cc in absurd (omega arith)
      go (Ok Moved) e h = let y : ◌≡◌ {A = ℕ} 0 1 = cc in absurd (omega arith)
      go (Ok Ended) e h = sym (ap last_line_lem (u.ends e))
      go (Err f) e h = sym (ap last_line_lem (u.stops f e))

  pub ends : {old mid new : Page} {w : Walk} {n : Next} (q : Printed reading_line t p room old mid w) → Turned t p room w q.going n
      → goes_on_lem n.answer ≡ false → PutsOn mid (turn_text n.answer n.walk.progress.at.0) new → PutsOn old (walk_text t p room) new
  ends {w = w} {n = n} q u o x =
      same (ap (λ (z : List ℕ). flat_map reading_line (all t p room) ++ z) (last_line w q.going n u o)) (over reading_line t p room q u o x)
