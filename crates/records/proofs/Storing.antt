-- What a walk leaves in the buffer: the records of the readings made so far. Assumes nothing.
use mathlib.Core.Path.{◌≡◌, refl, sym, ap, ◌∙◌, subst}
use mathlib.Core.Bool.{false}
use mathlib.Core.List.{List, [], ◌∷◌, ◌++◌, append-nil}
use Prim.Native.Nat.{ℕ, ◌+◌, ◌≤◌, ◌<◌}
use native.Mathlib.Omega.{arith}
use lib.ListN.{length}
use Rattle.std.specs.Prelude.{Ok, Some, None, Result, Err}
use Rattle.tables.specs.Table.{Table}
use Rattle.tables.specs.Check.{check_of}
use Rattle.fields.specs.declared.DecodeRefusal.{DecodeRefusal}
use Rattle.fields.specs.Payload.{Payload}
use Rattle.reading.specs.declared.Reading.{Reading}
use Rattle.reading.specs.declared.Walk.{Walk}
use Rattle.reading.specs.declared.Next.{Next}
use Rattle.reading.specs.declared.Decoded.{Decoded}
use Rattle.reading.specs.declared.Answer.{Answer}
use Rattle.reading.specs.declared.Answer.TheVariants.{Met, Skipped, Moved, Ended}
use Rattle.reading.specs.Decode.{walk_of, readings, spans_of, end_of}
use Rattle.reading.specs.Steps.{next_of, start_of, goes_on_lem, came_to_lem, handed}
use Rattle.reading.proofs.Looped.{Going, heft, going, Turned, turned, came-on, came-last, comes-to}
use Rattle.records.specs.Stretches.{stored, Leads}
use Rattle.records.proofs.Quickly.{stored-then, stored-none}
use Rattle.records.proofs.Leading.{further}

no_more : (rs : List Reading) → length rs ≡ 0 → rs ≡ []
no_more [] h = refl
no_more (r ∷ rs) h = absurd (omega (arith, h))

-- a turn that does not go on hands out nothing
none-handed : (a : Result Answer DecodeRefusal) → goes_on_lem a ≡ false → handed a ≡ []
none-handed (Ok (Met r)) o = let y : ◌≡◌ {A = ℕ} 0 1 = cc in absurd (omega arith)
none-handed (Ok (Skipped v)) o = refl
none-handed (Ok Moved) o = refl
none-handed (Ok Ended) o = refl
none-handed (Err f) o = refl

module _ (t : Table) (p : Payload) (room : ℕ) (out₀ : List ℕ) where
  pub record Storing (w : Walk) (out : List ℕ) : Type 0 where
    pub still : Going t p room w
    pub puts : out ≡ stored out₀ 0 (readings t p still.done)

  pub storing-none : Storing start_of out₀
  storing-none =
      let g = going t p room in
      record { still = g; puts = sym (ap (stored out₀ 0) (no_more (readings t p g.done) (sym g.made)) ∙ stored-none out₀ 0) }

  -- some readings more
  storing-more : (w : Walk) (out : List ℕ) (h : Storing w out) (rs qs : List Reading) (out' : List ℕ) → out' ≡ stored out w.progress.made rs → qs ≡ readings t p h.still.done ++ rs
      → out' ≡ stored out₀ 0 qs
  storing-more w out h rs qs out' e k =
      let m : w.progress.made ≡ 0 + length (readings t p h.still.done) = (let l = h.still.made in omega (arith, l)) in
      e ∙ ap (λ (x : List ℕ). stored x w.progress.made rs) h.puts ∙ stored-then out₀ 0 w.progress.made (readings t p h.still.done) rs m ∙ ap (stored out₀ 0) (sym k)

  module _ (ok : check_of t ≡ Ok tt) where
    pub record On (w : Walk) (z : Walk) (out : List ℕ) : Type 0 where
      pub storing : Storing z out
      pub less : heft t p room z ≤ heft t p room w

    pub storing-on : (w : Walk) (out : List ℕ) (z : Walk) (out' : List ℕ) → Storing w out → Leads t p room w out z out' → On w z out'
    storing-on w out z out' h l =
        let f = further t p room ok w h.still l.led in
        record { storing = record { still = f.still; puts = storing-more w out h l.readings (readings t p f.still.done) out' l.puts f.hands }; less = f.less }

    -- a turn that goes on
    pub record Next-on (w : Walk) (n : Next) (out : List ℕ) : Type 0 where
      pub storing : Storing n.walk out
      pub less : heft t p room n.walk < heft t p room w

    -- and one that came to the answer d
    pub record Next-last (d : Decoded) (out : List ℕ) : Type 0 where
      pub puts : out ≡ stored out₀ 0 (readings t p (spans_of (walk_of t p room)))
      pub ends : end_of t p (walk_of t p room) ≡ d

    module _ (w : Walk) (out : List ℕ) (h : Storing w out) (n : Next) (same : n ≡ next_of t p room w) (out' : List ℕ) (e : out' ≡ stored out w.progress.made (handed n.answer)) where
      after : Turned t p room w h.still n
      after = subst (λ (x : Next). Turned t p room w h.still x) (sym same) (turned t p room ok w h.still)

      pub next-on : came_to_lem n ≡ None → Next-on w n out'
      next-on o =
          let y = after.on (came-on n.answer n.walk.progress o) in
          record { storing = record { still = y.still; puts = storing-more w out h (handed n.answer) (readings t p y.still.done) out' e y.hands }; less = y.less }

      pub next_last : (d : Decoded) → came_to_lem n ≡ Some d → Next-last d out'
      next_last d z =
          let o = came-last n.answer n.walk.progress d z in
          let q = none-handed n.answer o in
          let k : readings t p (spans_of (walk_of t p room)) ≡ readings t p h.still.done = after.last o in
          record {
            puts = storing-more w out h (handed n.answer) (readings t p (spans_of (walk_of t p room))) out' e (k ∙ sym (ap (λ (l : List Reading). readings t p h.still.done ++ l) q ∙ append-nil (readings t p h.still.done)));
            ends = comes-to t p room ok w h.still n after d z;
          }
