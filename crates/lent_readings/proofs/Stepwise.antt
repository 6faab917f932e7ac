-- The turns of a decode into a lent run by a caller that stores what it makes of each reading, with no memory in them: where one may begin (`Holds`), what each
-- leaves (`stored`, `went`), and what holds where they stop (`ends`). The run is of readings, or of what is made of each. After the first turn, which prepares,
-- they are the turns of Turns. Assumes nothing.
use Rattle.std.specs.Prelude.{◌≡◌, ℕ, suc, ◌<◌, Bool, true, false, List, [], ◌∷◌, ◌++◌, length, map, set, Some, None, Result, Ok, Err}
use Rattle.std.proofs.Common.{refl, sym, ap, ◌∙◌, subst, arith}
use Rattle.std.proofs.lemmas.List.{map-append, append_assoc}
use mathlib.Core.List.{append-nil}
use Rattle.bits.specs.Bits.{pick}
use Rattle.tables.specs.Table.{Table}
use Rattle.tables.specs.Check.{check_of}
use Rattle.fields.specs.declared.DecodeRefusal.{DecodeRefusal}
use Rattle.fields.specs.Payload.{Payload, payload_of}
use Rattle.reading.specs.declared.Reading.{Reading}
use Rattle.reading.specs.declared.Answer.{Answer}
use Rattle.reading.specs.declared.Answer.TheVariants.{Met, Skipped, Moved, Ended}
use Rattle.reading.specs.declared.Next.{Next}
use Rattle.reading.specs.declared.Decoded.{Decoded}
use Rattle.reading.specs.declared.Walk.{Walk}
use Rattle.reading.specs.Filling.{working_of, prepared_of, run_after}
use Rattle.reading.specs.Decode.{readings, decoded_in, decoded_of_lem, read_into, readings_of}
use Rattle.reading.specs.Steps.{next_of, start_of, came_by}
use Rattle.reading.proofs.Looped.{Going, heft, going}
use Rattle.reading.proofs.Working.{picked-working, ready-accepted}
use Rattle.lent_readings.specs.declared.Step.{Step}
use Rattle.lent_readings.specs.Run.{entries_of, placed}
use Rattle.lent_readings.specs.Steps.{fresh_step, on_step, begun_by, answered_by, turned_by_lem, step_of, padded_after}
use Rattle.lent_readings.proofs.Turns as run

-- what a run holds: something of each reading
pub record Kind (X : Type 0) : Type 0 where
  pub one : Reading → X
  pub all : List Reading → List X
  pub none : all [] ≡ []
  pub more : (rs : List Reading) (r : Reading) → all (rs ++ r ∷ []) ≡ all rs ++ one r ∷ []
  pub long : (rs : List Reading) → length (all rs) ≡ length rs

-- the readings themselves
abbrev pub itself : Kind Reading
itself = record { one = λ r. r; all = λ rs. rs; none = refl; more = λ rs r. refl; long = λ rs. refl }

module _ {X : Type 0} (K : Kind X) where
  all_on : (qs rs : List Reading) → K.all qs ≡ map K.one qs → K.all (qs ++ rs) ≡ map K.one (qs ++ rs)
  all_on qs [] h = subst (λ (l : List Reading). K.all l ≡ map K.one l) (sym (append-nil qs)) h
  all_on qs (r ∷ rs) h =
      let e : K.all (qs ++ r ∷ []) ≡ map K.one (qs ++ r ∷ []) = K.more qs r ∙ ap (λ (xs : List X). xs ++ K.one r ∷ []) h ∙ sym (map-append K.one qs (r ∷ [])) in
      subst (λ (l : List Reading). K.all l ≡ map K.one l) (append_assoc qs (r ∷ []) rs) (all_on (qs ++ r ∷ []) rs e)

  -- it is made of each
  all-made : (rs : List Reading) → K.all rs ≡ map K.one rs
  all-made rs = all_on [] rs K.none

module _ {X : Type 0} (K : Kind X) (t : Table) (received pad₀ : List ℕ) (ys : List X) where
  abbrev p : Payload
  p = payload_of (working_of t received)

  abbrev room : ℕ
  room = length ys

  -- what the call is to leave
  abbrev pub answers : Decoded
  answers = decoded_of_lem t received (length pad₀) room

  abbrev pub padding : List ℕ
  padding = run_after t received pad₀

  abbrev pub entries : List X
  entries = entries_of (K.all (readings_of t received (length pad₀) room)) ys

  -- the run with these readings in it
  abbrev kept : List Reading → List X
  kept rs = entries_of (K.all rs) ys

  kept-made : (rs : List Reading) → kept rs ≡ entries_of (map K.one rs) ys
  kept-made rs = ap (λ (xs : List X). entries_of xs ys) (all-made K rs)

  kept-none : (rs : List Reading) → 0 ≡ length rs → ys ≡ kept rs
  kept-none rs h = sym (ap kept (run.none_read rs h) ∙ ap (λ (xs : List X). entries_of xs ys) K.none)

  abbrev ready : Type 0
  ready = prepared_of t (length received) (length pad₀) ≡ Ok tt

  -- where a turn may begin: nothing is done yet, or the readings made so far are stored
  pub data Holds (c : Step) (pad : List ℕ) (cur : List X) : Type 0 where
    first : c ≡ fresh_step → pad ≡ pad₀ → cur ≡ ys → Holds c pad cur
    later : c.fresh ≡ false → ready → (g : Going t p room c.walk) → pad ≡ padding → cur ≡ kept (readings t p g.done) → Holds c pad cur

  -- how far it is to the end at most
  abbrev pub weight : Step → ℕ
  weight c = pick c.fresh (suc (heft t p room start_of)) (heft t p room c.walk)

  -- what a turn from c leaves
  pub record Left (c : Step) (cur : List X) (d : Step) (pad : List ℕ) : Type 0 where
    pub inside : d.stores ≡ true → d.place < room
    pub stored : d.stores ≡ true → Holds d pad (set cur d.place (K.one d.reading)) × (weight d < weight c)
    pub went : d.stores ≡ false → d.over ≡ false → Holds d pad cur × (weight d < weight c)
    pub ends : d.stores ≡ false → d.over ≡ true → (d.decoded ≡ answers) × ((pad ≡ padding) × (cur ≡ entries))

  -- where a walk goes on of which Turns speaks
  abbrev Storing : Walk → List X → Type 0
  Storing = run.Storing K.one t p room ys

  held : (d : Step) {cur : List X} → d.fresh ≡ false → ready → Storing d.walk cur → Holds d padding cur
  held d f ok h = later f ok h.still refl (h.puts ∙ sym (kept-made (readings t p h.still.done)))

  -- the other answers of a test
  not-true : {A : Type 0} → ◌≡◌ {A = Bool} false true → A
  not-true h = let y : ◌≡◌ {A = ℕ} 0 1 = cc in absurd (omega arith)

  not-false : {A : Type 0} → ◌≡◌ {A = Bool} true false → A
  not-false h = let y : ◌≡◌ {A = ℕ} 0 1 = cc in absurd (omega arith)

  -- the first turn
  begins : (c : Step) → c.fresh ≡ true → (q : Result (Unit {0}) DecodeRefusal) → prepared_of t (length received) (length pad₀) ≡ q → Left c ys (begun_by q) padding
  begins c f (Ok tt) e = record {
    inside = λ h. not-true h;
    stored = λ h. not-true h;
    went = λ _ _. (later refl e (going t p room) refl (kept-none (readings t p (going t p room).done) (going t p room).made), subst (λ (b : Bool). heft t p room start_of < pick b (suc (heft t p room start_of)) (heft t p room c.walk)) (sym f) (omega arith));
    ends = λ _ h. not-true h;
  }
  begins c f (Err x) e = record {
    inside = λ h. not-true h;
    stored = λ h. not-true h;
    went = λ _ h. not-false h;
    ends = λ _ _. (
      ap (λ (q : Result (Unit {0}) DecodeRefusal). decoded_in q t p room) (sym e),
      (refl, sym (ap (λ (q : Result (Unit {0}) DecodeRefusal). kept (read_into q t p room)) e ∙ ap (λ (xs : List X). entries_of xs ys) K.none)),
    );
  }

  -- each other one
  module _ (c : Step) (f : c.fresh ≡ false) (ok : ready) (g : Going t p room c.walk) where
    abbrev n : Next
    n = next_of t p room c.walk

    abbrev made : ℕ
    made = c.walk.progress.made

    abbrev so_far : List X
    so_far = kept (readings t p g.done)

    so : Storing c.walk so_far
    so = record { full = refl; still = g; puts = kept-made (readings t p g.done) }

    accepted : check_of t ≡ Ok tt
    accepted = ready-accepted t received pad₀ ok

    -- one that goes on, and leaves the run as cur
    goes-on : (a : Result Answer DecodeRefusal) → n.answer ≡ a → came_by a n.walk.progress ≡ None → {cur : List X} → cur ≡ placed K.one so_far made a
        → (d : Step) → d.fresh ≡ false → d.walk ≡ n.walk → Holds d padding cur × (weight d < weight c)
    goes-on a e o {cur} s d q v =
        let y = run.stored-on K.one t p room ys so refl accepted refl (s ∙ ap (placed K.one so_far made) (sym e)) (ap (λ (x : Result Answer DecodeRefusal). came_by x n.walk.progress) e ∙ o) in
        let z : Storing d.walk cur × (heft t p room d.walk < heft t p room c.walk) = subst (λ (w : Walk). Storing w cur × (heft t p room w < heft t p room c.walk)) (sym v) y in (
          held d q ok z.0,
          rw (q, f) z.1,
        )

    -- one that ends the walk
    last : (a : Result Answer DecodeRefusal) → n.answer ≡ a → (d : Decoded) → came_by a n.walk.progress ≡ Some d → so_far ≡ placed K.one so_far made a
        → (d ≡ answers) × ((padding ≡ padding) × (so_far ≡ entries))
    last a e d o s =
        let y = run.ends K.one t p room ys so refl accepted refl (s ∙ ap (placed K.one so_far made) (sym e)) (ap (λ (x : Result Answer DecodeRefusal). came_by x n.walk.progress) e ∙ o) in (
          y.0 ∙ ap (λ (q : Result (Unit {0}) DecodeRefusal). decoded_in q t p room) (sym ok),
          (refl, y.1 ∙ sym (kept-made _) ∙ ap (λ (q : Result (Unit {0}) DecodeRefusal). kept (read_into q t p room)) (sym ok)),
        )

    goes : (a : Result Answer DecodeRefusal) → n.answer ≡ a → Left c so_far (answered_by a n.walk made) padding
    goes (Ok (Met r)) e = record {
      inside = λ _. run.seats K.one t p room ys so refl r e;
      stored = λ _. goes-on (Ok (Met r)) e refl refl (answered_by (Ok (Met r)) n.walk made) refl refl;
      went = λ h. not-false h;
      ends = λ h. not-false h;
    }
    goes (Ok (Skipped v)) e = record {
      inside = λ h. not-true h;
      stored = λ h. not-true h;
      went = λ _ _. goes-on (Ok (Skipped v)) e refl refl (on_step n.walk) refl refl;
      ends = λ _ h. not-true h;
    }
    goes (Ok Moved) e = record {
      inside = λ h. not-true h;
      stored = λ h. not-true h;
      went = λ _ _. goes-on (Ok Moved) e refl refl (on_step n.walk) refl refl;
      ends = λ _ h. not-true h;
    }
    goes (Ok Ended) e = record { inside = λ h. not-true h; stored = λ h. not-true h; went = λ _ h. not-false h; ends = λ _ _. last (Ok Ended) e _ refl refl }
    goes (Err x) e = record { inside = λ h. not-true h; stored = λ h. not-true h; went = λ _ h. not-false h; ends = λ _ _. last (Err x) e _ refl refl }

    stepped : step_of t received padding room c ≡ answered_by n.answer n.walk made
    stepped = rw f (ap (λ (l : List ℕ). turned_by_lem (next_of t (payload_of l) room c.walk) made) (picked-working t received pad₀ ok))

  leaves : (c : Step) (pad : List ℕ) (cur : List X) (pad' : List ℕ) (cur' : List X) → pad ≡ pad' → cur ≡ cur' → (d : Step) (pad'' : List ℕ)
      → step_of t received pad' room c ≡ d → padded_after t received pad' c ≡ pad'' → Left c cur' d pad'' → Left c cur (step_of t received pad room c) (padded_after t received pad c)
  leaves c pad cur pad' cur' q r d pad'' e h l =
      subst (λ (x : List ℕ). Left c cur (step_of t received x room c) (padded_after t received x c)) (sym q)
      (subst (λ (zs : List X). Left c zs (step_of t received pad' room c) (padded_after t received pad' c)) (sym r)
      (subst (λ (x : Step). Left c cur' x (padded_after t received pad' c)) (sym e) (subst (λ (x : List ℕ). Left c cur' d x) (sym h) l)))

  -- a turn from where one may begin
  pub turns : (c : Step) (pad : List ℕ) (cur : List X) → Holds c pad cur → Left c cur (step_of t received pad room c) (padded_after t received pad c)
  turns c pad cur (first e q r) =
      let f : c.fresh ≡ true = ap (λ (x : Step). x.fresh) e in
      leaves c pad cur pad₀ ys q r (begun_by (prepared_of t (length received) (length pad₀))) padding (rw f refl) (rw f refl) (begins c f (prepared_of t (length received) (length pad₀)) refl)
  turns c pad cur (later f ok g q r) =
      leaves c pad cur padding (kept (readings t p g.done)) q r _ padding (stepped c f ok g) (rw f refl) (goes c f ok g (next_of t p room c.walk).answer refl)

  -- what a turn of the code leaves, which answered d, left the padding run as pad' and had room for n
  pub left : {c : Step} {pad : List ℕ} {cur : List X} {n : ℕ} {d : Step} {pad' : List ℕ}
      → Holds c pad cur → n ≡ room → (d ≡ step_of t received pad n c) × (pad' ≡ padded_after t received pad c) → Left c cur d pad'
  left {c} {pad} {cur} {n} {d} {pad'} h l e =
      subst (λ (y : Step). Left c cur y pad') (sym (e.0 ∙ ap (λ (m : ℕ). step_of t received pad m c) l))
      (subst (λ (q : List ℕ). Left c cur (step_of t received pad room c) q) (sym e.1) (turns c pad cur h))

  -- where the next turn begins once the reading is stored, at its place n and as x
  pub stored-at : {c : Step} {cur : List X} {d : Step} {pad : List ℕ} {n : ℕ} {x : X}
      → Left c cur d pad → d.stores ≡ true → n ≡ d.place → x ≡ K.one d.reading → Holds d pad (set cur n x)
  stored-at {c} {cur} {d} {pad} {n} {x} l s e f =
      subst (λ (m : ℕ). Holds d pad (set cur m x)) (sym e) (subst (λ (y : X). Holds d pad (set cur d.place y)) (sym f) (l.stored s).0)
