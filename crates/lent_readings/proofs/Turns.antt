-- The turns of a decode into a lent run, of readings or of what is made of each: where one may begin (`Storing`), where its reading has its place (`seats`), what
-- it leaves (`stored-on`), and what holds where they stop (`ends`). Assumes nothing.
use Rattle.std.specs.Prelude.{◌≡◌, ℕ, ◌<◌, false, List, [], ◌∷◌, ◌++◌, length, map, set, Option, Some, None, Result, Ok, Err}
use Rattle.std.proofs.Common.{refl, sym, ap, ◌∙◌, subst, arith}
use Rattle.std.proofs.lemmas.List.{length-map, map-append}
use mathlib.Core.List.{append-nil}
use Rattle.tables.specs.Table.{Table}
use Rattle.tables.specs.Check.{check_of}
use Rattle.fields.specs.declared.DecodeRefusal.{DecodeRefusal}
use Rattle.fields.specs.Payload.{Payload}
use Rattle.reading.specs.declared.Reading.{Reading}
use Rattle.reading.specs.declared.Answer.{Answer}
use Rattle.reading.specs.declared.Answer.TheVariants.{Met, Skipped, Moved, Ended}
use Rattle.reading.specs.declared.Decoded.{Decoded}
use Rattle.reading.specs.declared.Next.{Next}
use Rattle.reading.specs.declared.Walk.{Walk}
use Rattle.reading.specs.Decode.{readings, spans_of, walk_of, end_of}
use Rattle.reading.specs.Steps.{next_of, start_of, goes_on_lem, came_to_lem, handed}
use Rattle.reading.proofs.Looped.{Going, heft, going, Turned, leaves, goes-on, came-last, comes-to}
use Rattle.reading.proofs.Seated.{met-room}
use Rattle.lent_readings.specs.Run.{entries_of, placed}
use Rattle.lent_readings.specs.Clauses.{Seats}

-- one more in a run that has room for it
set_more : {X : Type 0} (xs ys : List X) (x : X) → length xs < length ys → set (entries_of xs ys) (length xs) x ≡ entries_of (xs ++ x ∷ []) ys
set_more [] [] x l = absurd (omega arith)
set_more [] (y ∷ ys) x l = refl
set_more (z ∷ xs) [] x l = absurd (omega arith)
set_more (z ∷ xs) (y ∷ ys) x l = ap (λ (zs : List _). z ∷ zs) (set_more xs ys x (omega (arith, l)))

pub none_read : (rs : List Reading) → 0 ≡ length rs → rs ≡ []
none_read [] h = refl
none_read (r ∷ rs) h = absurd (omega (arith, h))

-- the last turn hands out nothing
none-handed : (a : Result Answer DecodeRefusal) → goes_on_lem a ≡ false → handed a ≡ []
none-handed (Ok (Met r)) o = let y : ◌≡◌ {A = ℕ} 0 1 = cc in absurd (omega arith)
none-handed (Ok (Skipped v)) o = refl
none-handed (Ok Moved) o = refl
none-handed (Ok Ended) o = refl
none-handed (Err f) o = refl

-- the readings themselves are what is made of them
pub map-same : (rs : List Reading) → map (λ r. r) rs ≡ rs
map-same [] = refl
map-same (r ∷ rs) = ap (λ (qs : List Reading). r ∷ qs) (map-same rs)

module _ {X : Type 0} (one : Reading → X) (t : Table) (p : Payload) (room : ℕ) (ys : List X) where
  -- the run with what is made of these readings in it
  abbrev kept : List Reading → List X
  kept rs = entries_of (map one rs) ys

  kept_more : (rs : List Reading) (r : Reading) → length rs < length ys → set (kept rs) (length rs) (one r) ≡ kept (rs ++ r ∷ [])
  kept_more rs r l =
      let m : length (map one rs) ≡ length rs = length-map rs one in
      ap (λ (n : ℕ). set (kept rs) n (one r)) (sym m) ∙ set_more (map one rs) ys (one r) (subst (λ (n : ℕ). n < length ys) (sym m) l)
      ∙ ap (λ (xs : List X). entries_of xs ys) (sym (map-append one rs (r ∷ [])))

  -- what a turn hands out, after what was handed out before it
  kept-handed : (rs : List Reading) (a : Result Answer DecodeRefusal) → Seats a (length rs) (length ys) → placed one (kept rs) (length rs) a ≡ kept (rs ++ handed a)
  kept-handed rs (Ok (Met r)) h = kept_more rs r (h r refl)
  kept-handed rs (Ok (Skipped v)) h = ap kept (sym (append-nil rs))
  kept-handed rs (Ok Moved) h = ap kept (sym (append-nil rs))
  kept-handed rs (Ok Ended) h = ap kept (sym (append-nil rs))
  kept-handed rs (Err f) h = ap kept (sym (append-nil rs))

  -- where a turn may begin: what is made of the readings so far is stored
  pub record Storing (w : Walk) (cur : List X) : Type 0 where
    pub full : room ≡ length ys
    pub still : Going t p room w
    pub puts : cur ≡ kept (readings t p still.done)

  pub begins : room ≡ length ys → Storing start_of ys
  begins l = record { full = l; still = going t p room; puts = sym (ap kept (none_read (readings t p (going t p room).done) (going t p room).made)) }

  module _ {w : Walk} {cur : List X} (h : Storing w cur) {n : Next} (e : n ≡ next_of t p room w) where
    -- a reading that is handed out has its place
    pub seats : Seats n.answer w.progress.made (length ys)
    seats r m = subst (λ (k : ℕ). w.progress.made < k) h.full (met-room t p room w r (sym (ap (λ (x : Next). x.answer) e) ∙ m))

    -- the run after it
    laid : placed one cur w.progress.made n.answer ≡ kept (readings t p h.still.done ++ handed n.answer)
    laid =
        let m = h.still.made in
        ap (λ (xs : List X). placed one xs w.progress.made n.answer) h.puts ∙ ap (λ (k : ℕ). placed one (kept (readings t p h.still.done)) k n.answer) m
        ∙ kept-handed (readings t p h.still.done) n.answer (λ r q. subst (λ (k : ℕ). k < length ys) m (seats r q))

    module _ (ok : check_of t ≡ Ok tt) where
      after : Turned t p room w h.still n
      after = leaves t p room ok h.still e

      module _ {m : Option Decoded} (q : m ≡ came_to_lem n) {new : List X} (s : new ≡ placed one cur w.progress.made n.answer) where
        -- a turn after which the walk goes on: it has come nearer to its end
        pub stored-on : m ≡ None → Storing n.walk new × (heft t p room n.walk < heft t p room w)
        stored-on o =
            let y = after.on (goes-on n q o) in
            (record { full = h.full; still = y.still; puts = s ∙ laid ∙ ap kept (sym y.hands) }, y.less)

        -- the last one
        pub ends : {d : Decoded} → m ≡ Some d
            → (d ≡ end_of t p (walk_of t p (length ys))) × (new ≡ entries_of (map one (readings t p (spans_of (walk_of t p (length ys))))) ys)
        ends {d} o =
            let c = sym q ∙ o in
            let z = came-last n.answer n.walk.progress d c in
            let all : readings t p h.still.done ++ handed n.answer ≡ readings t p (spans_of (walk_of t p room)) =
            ap (λ (rs : List Reading). readings t p h.still.done ++ rs) (none-handed n.answer z) ∙ append-nil (readings t p h.still.done) ∙ sym (after.last z) in
            subst (λ (k : ℕ). (d ≡ end_of t p (walk_of t p k)) × (new ≡ kept (readings t p (spans_of (walk_of t p k))))) h.full
            (sym (comes-to t p room ok w h.still n after d c), s ∙ laid ∙ ap kept all)
