-- Fields hit one after another are turns that lead on, and a walk that turns lead on to still is the walk. Assumes nothing.
use mathlib.Core.Path.{◌≡◌, refl, sym, ap, ◌∙◌, subst}
use mathlib.Core.Bool.{Bool, true, false}
use mathlib.Core.List.{List, [], ◌∷◌, ◌++◌, append-nil, append_assoc}
use Prim.Native.Nat.{ℕ, zero, suc, ◌+◌, ◌-◌, ◌≤◌, ◌<◌}
use native.Mathlib.Omega.{arith}
use Rattle.std.specs.Prelude.{None, Ok, Some}
use lib.Dec.{eqb, ltb}
use lib.ListN.{length-append}
use borrow.Author.Tests.{lt-ltb, le-ltb}
use Rattle.tables.specs.Table.{Table}
use Rattle.tables.specs.Check.{check_of}
use Rattle.tables.specs.declared.RepeatingFieldSet.{RepeatingFieldSet}
use Rattle.walking.specs.declared.Place.{Place}
use Rattle.walking.specs.declared.Place.TheVariants.{Inside, Plain}
use Rattle.walking.specs.declared.Spot.{Spot}
use Rattle.walking.specs.declared.Spot.TheVariants.{Field, Within}
use Rattle.walking.specs.Walk.{One, hit, place_of, Element}
use Rattle.walking.specs.Turns.{Turn, moved, met, either, seen, turn_by, turn_within, turn}
use Rattle.fields.specs.declared.DecodeRefusal.{DecodeRefusal}
use Rattle.fields.specs.Payload.{Payload}
use Rattle.reading.specs.declared.Span.{Span}
use Rattle.reading.specs.declared.Reading.{Reading}
use Rattle.reading.specs.declared.Progress.{Progress}
use Rattle.reading.specs.declared.Walk.{Walk}
use Rattle.reading.specs.declared.Next.{Next}
use Rattle.fields.specs.Shapes.{shape_of}
use Rattle.reading.specs.Groups.{too_many}
use Rattle.reading.specs.Decode.{one_of, count_of, reading_of, readings, progress_at}
use Rattle.reading.specs.Steps.{walk_at_lem, next_to, met_of, shown, turn_of, next_of, goes_on_lem, handed}
use Rattle.reading.proofs.Looped.{Going, heft, turned, met-on, one-hands}
use Rattle.records.specs.declared.Stretch.{Stretch}
use Rattle.records.specs.Layout.{records}
use Rattle.records.specs.Puts.{puts}
use Rattle.records.specs.Stretches.{stored, Hits, none, more, Led, here, then, Leads, LeadsIn, Insides, Plains, Ran, stretch_at, Runs}
use Rattle.records.proofs.Quickly.{stored-then}

either-yes : {W S F : Type 0} (b : Bool) (x y : Turn W S F) → b ≡ true → either b x y ≡ x
unfolding either
either-yes true x y h = refl
either-yes false x y h = cc

either-no : {W S F : Type 0} (b : Bool) (x y : Turn W S F) → b ≡ false → either b x y ≡ y
unfolding either
either-no true x y h = cc
either-no false x y h = refl

module _ (t : Table) (p : Payload) (room : ℕ) where
  -- ## Turns, by where the walk stands

  abbrev one : ℕ → Element → Bool → Progress → One Span Progress DecodeRefusal
  one = one_of t p room

  abbrev by : ℕ → Place → Progress → Turn Span Progress DecodeRefusal
  by i q s = turn_by t one (count_of t p) too_many i q s

  at_place : (i : ℕ) (q : Place) (s : Progress) → i < t.count → place_of t i ≡ q → turn_of t p room (Field i) s ≡ by i q s
  unfolding turn
  at_place i q s l h = either-yes (ltb i t.count) _ _ (lt-ltb _ _ l) ∙ ap (λ (x : Place). by i x s) h

  seen-hit : (q : Spot) (s z : Progress) (v : Span) (o : One Span Progress DecodeRefusal) → o ≡ hit v z → seen q s o ≡ met v q z
  unfolding seen
  seen-hit q s z v o h = ap (seen q s) h

  turn-plain : (i : ℕ) (s z : Progress) (v : Span) → i < t.count → place_of t i ≡ Plain → ((last : Bool) → one i None last s ≡ hit v z) → turn_of t p room (Field i) s ≡ met v (Field (i + 1)) z
  unfolding turn_by
  turn-plain i s z v l h o = at_place i Plain s l h ∙ seen-hit (Field (i + 1)) s z v _ (o (eqb (i + 1) t.count))

  turn_inside : (i : ℕ) (s : Progress) → i < t.count → place_of t i ≡ Inside → turn_of t p room (Field i) s ≡ moved (Field (i + 1)) s
  unfolding turn_by
  turn_inside i s l h = at_place i Inside s l h

  turn-element : (k n e j : ℕ) (s z : Progress) (v : Span) → e < n → j < (t.set k).size → one ((t.set k).start + j) (Some e) false s ≡ hit v z
      → turn_of t p room (Within k n e j) s ≡ met v (Within k n e (j + 1)) z
  unfolding turn turn_within
  turn-element k n e j s z v l m o =
      either-yes (ltb e n) _ _ (lt-ltb _ _ l) ∙ either-yes (ltb j (t.set k).size) _ _ (lt-ltb _ _ m) ∙ seen-hit (Within k n e (j + 1)) s z v _ o

  pub turn-next : (k n e j : ℕ) (s : Progress) → e < n → (t.set k).size ≤ j → turn_of t p room (Within k n e j) s ≡ moved (Within k n (e + 1) 0) s
  unfolding turn turn_within
  turn-next k n e j s l m = either-yes (ltb e n) _ _ (lt-ltb _ _ l) ∙ either-no (ltb j (t.set k).size) _ _ (le-ltb _ _ m)

  pub turn-out : (k n e j : ℕ) (s : Progress) → n ≤ e → turn_of t p room (Within k n e j) s ≡ moved (Field ((t.set k).start + 1)) s
  unfolding turn turn_within
  turn-out k n e j s l = either-no (ltb e n) _ _ (le-ltb _ _ l)

  -- ## Turns that lead on

  pub led-then : (w u : Walk) (rs : List Reading) {qs : List Reading} {z : Walk} → Led t p room w rs u → Led t p room u qs z → Led t p room w (rs ++ qs) z
  led-then w u rs g here = subst (λ (l : List Reading). Led t p room w l u) (sym (append-nil rs)) g
  led-then w u rs g (then qs x h o) =
      subst (λ (l : List Reading). Led t p room w l (next_of t p room x).walk) (append_assoc rs qs (handed (next_of t p room x).answer)) (then (rs ++ qs) x (led-then w u rs g h) o)

  led-one : (w : Walk) (n : Next) → next_of t p room w ≡ n → goes_on_lem n.answer ≡ true → Led t p room w (handed n.answer) n.walk
  led-one w n h o =
      subst (λ (x : Next). Led t p room w (handed x.answer) x.walk) h
      (then [] w here (ap (λ (x : Next). goes_on_lem x.answer) h ∙ o))

  pub led-met : (q q' : Spot) (s z : Progress) (v : Span) → turn_of t p room q s ≡ met v q' z → Led t p room (walk_at_lem q s) (readings t p (v ∷ [])) (walk_at_lem q' z)
  led-met q q' s z v h =
      subst (λ (l : List Reading). Led t p room (walk_at_lem q s) l (walk_at_lem q' z)) (sym (one-hands t p room v))
      (led-one (walk_at_lem q s) (next_to (Ok (met_of t p v)) q' z) (ap (shown t p q) h) (met-on t p room (shape_of (t.field v.field)) (reading_of t p v) v))

  pub led-moved : (q q' : Spot) (s z : Progress) → turn_of t p room q s ≡ moved q' z → Led t p room (walk_at_lem q s) [] (walk_at_lem q' z)
  led-moved q q' s z h = led-one (walk_at_lem q s) (next_to _ q' z) (ap (shown t p q) h) refl

  -- ## Fields hit one after another

  hits-from : (e : Element) (i : ℕ) (s : Progress) {rs : List Reading} {k : ℕ} {z : Progress} → Hits t p room e i s rs k z → i ≤ k
  hits-from e i s none = omega arith
  hits-from e i s (more rs k x v y h o) = let l = hits-from e i s h in omega (arith, l)

  pub led-plain : (i l : ℕ) (s : Progress) → l ≤ t.count → ((j : ℕ) → i ≤ j → j < l → place_of t j ≡ Plain) → {rs : List Reading} {k : ℕ} {z : Progress} → k ≤ l
      → Hits t p room None i s rs k z → Led t p room (walk_at_lem (Field i) s) rs (walk_at_lem (Field k) z)
  led-plain i l s b a m none = here
  led-plain i l s b a m (more rs k x v z h o) =
      let f = hits-from None i s h in
      led-then (walk_at_lem (Field i) s) (walk_at_lem (Field k) x) rs
      (led-plain i l s b a (omega (arith, m)) h)
      (led-met (Field k) (Field (k + 1)) x z v (turn-plain k x z v (omega (arith, m, b)) (a k f (omega (arith, m))) o))

  pub led-within : (k n e j : ℕ) (s : Progress) → e < n → {rs : List Reading} {m : ℕ} {z : Progress} → m ≤ (t.set k).start + (t.set k).size
      → Hits t p room (Some e) ((t.set k).start + j) s rs m z → Led t p room (walk_at_lem (Within k n e j) s) rs (walk_at_lem (Within k n e (m - (t.set k).start)) z)
  led-within k n e j s l b none =
      let q : j ≡ (t.set k).start + j - (t.set k).start = omega arith in
      subst (λ (o : ℕ). Led t p room (walk_at_lem (Within k n e j) s) [] (walk_at_lem (Within k n e o) s)) q here
  led-within k n e j s l b (more rs m x v z h o) =
      let f = hits-from (Some e) ((t.set k).start + j) s h in
      let d : ℕ = m - (t.set k).start in
      let q : d + 1 ≡ m + 1 - (t.set k).start = omega (arith, f) in
      let g : m ≡ (t.set k).start + d = omega (arith, f) in
      led-then (walk_at_lem (Within k n e j) s) (walk_at_lem (Within k n e d) x) rs
      (led-within k n e j s l (omega (arith, b)) h)
      (subst (λ (c : ℕ). Led t p room (walk_at_lem (Within k n e d) x) (readings t p (v ∷ [])) (walk_at_lem (Within k n e c) z)) q
      (led-met (Within k n e d) (Within k n e (d + 1)) x z v
      (turn-element k n e d x z v l (omega (arith, b, g, f)) (ap (λ (i : ℕ). one i (Some e) false x) (sym g) ∙ o false))))

  -- later fields of sets
  pub led-inside : (i r : ℕ) (s : Progress) → ((j : ℕ) → i ≤ j → j < r → (j < t.count) × (place_of t j ≡ Inside)) → (n : ℕ) → i + n ≤ r
      → Led t p room (walk_at_lem (Field i) s) [] (walk_at_lem (Field (i + n)) s)
  led-inside i r s a zero l = let q : i ≡ i + 0 = omega arith in subst (λ (k : ℕ). Led t p room (walk_at_lem (Field i) s) [] (walk_at_lem (Field k) s)) q here
  led-inside i r s a (suc n) l =
      let h = a (i + n) (omega arith) (omega (arith, l)) in
      let q : i + n + 1 ≡ i + suc n = omega arith in
      subst (λ (k : ℕ). Led t p room (walk_at_lem (Field i) s) [] (walk_at_lem (Field k) s)) q
      (led-then (walk_at_lem (Field i) s) (walk_at_lem (Field (i + n)) s) []
      (led-inside i r s a n (omega (arith, l)))
      (led-moved (Field (i + n)) (Field (i + n + 1)) s s (turn_inside (i + n) s h.0 h.1)))

  -- ## With what is stored

  pub leads-none : (w : Walk) (out : List ℕ) (z : Walk) → Led t p room w [] z → z.progress ≡ w.progress → Leads t p room w out z out
  unfolding records puts
  leads-none w out z g h =
      let e : z.progress.made ≡ w.progress.made = ap (λ (s : Progress). s.made) h in
      record { readings = []; led = g; made = (let y : z.progress.made ≡ w.progress.made + 0 = omega (arith, e) in y); puts = refl }

  pub leads-then : (w : Walk) (out : List ℕ) (u : Walk) (out₁ : List ℕ) (z : Walk) (out₂ : List ℕ) → Leads t p room w out u out₁ → Leads t p room u out₁ z out₂ → Leads t p room w out z out₂
  leads-then w out u out₁ z out₂ g h =
      let a = length-append g.readings h.readings in
      record {
        readings = g.readings ++ h.readings;
        led = led-then w u g.readings g.led h.led;
        made = omega (arith, a, g.made, h.made);
        puts = h.puts ∙ ap (λ (x : List ℕ). stored x u.progress.made h.readings) g.puts ∙ stored-then out w.progress.made u.progress.made g.readings h.readings g.made;
      }

  pub leads-inside : (i r : ℕ) (s : Progress) (out : List ℕ) → Insides t i r → Leads t p room (walk_at_lem (Field i) s) out (walk_at_lem (Field r) s) out
  leads-inside i r s out h =
      let l = h.reach in
      let e : i + (r - i) ≡ r = omega (arith, l) in
      let n : i + (r - i) ≤ r = omega (arith, e) in
      leads-none (walk_at_lem (Field i) s) out (walk_at_lem (Field r) s)
      (subst (λ (k : ℕ). Led t p room (walk_at_lem (Field i) s) [] (walk_at_lem (Field k) s)) e (led-inside i r s h.all (r - i) n)) refl

  pub leads-plain : (i l : ℕ) (s : Progress) (out : List ℕ) (k : ℕ) (z : Progress) (out' : List ℕ) → Plains t i l → Ran t p room None i l s out k z out'
      → Leads t p room (walk_at_lem (Field i) s) out (walk_at_lem (Field k) z) out'
  leads-plain i l s out k z out' h r = record { readings = r.readings; led = led-plain i l s h.below h.all r.high r.hits; made = r.made; puts = r.puts }

  pub leads-within : (k e j at made : ℕ) (out : List ℕ) (g : RepeatingFieldSet) (r : Stretch) (out' : List ℕ) → g ≡ t.set k
      → Runs t p room (Some e) (g.start + j) (g.start + g.size) at made out r out' → LeadsIn t p room k e j at made out (stretch_at (r.field - g.start) r.at r.made None) out'
  leads-within k e j at made out g r out' h =
      subst (λ (x : RepeatingFieldSet). Runs t p room (Some e) (x.start + j) (x.start + x.size) at made out r out' → LeadsIn t p room k e j at made out (stretch_at (r.field - x.start) r.at r.made None) out') (sym h)
      (λ y. record { all = λ n cs l. let q = y.all cs in record { readings = q.readings; led = led-within k n e j (progress_at at made cs) l q.high q.hits; made = q.made; puts = q.puts } })

  pub leads-still : (k e j at made : ℕ) (out : List ℕ) → LeadsIn t p room k e j at made out (stretch_at j at made None) out
  leads-still k e j at made out = record { all = λ n cs l. leads-none (walk_at_lem (Within k n e j) (progress_at at made cs)) out (walk_at_lem (Within k n e j) (progress_at at made cs)) here refl }

  pub leads-next : (k n e j : ℕ) (s : Progress) (out : List ℕ) → e < n → (t.set k).size ≤ j → Leads t p room (walk_at_lem (Within k n e j) s) out (walk_at_lem (Within k n (e + 1) 0) s) out
  leads-next k n e j s out l m =
      leads-none (walk_at_lem (Within k n e j) s) out (walk_at_lem (Within k n (e + 1) 0) s) (led-moved (Within k n e j) (Within k n (e + 1) 0) s s (turn-next k n e j s l m)) refl

  pub leads-out : (k n e j : ℕ) (s : Progress) (out : List ℕ) → n ≤ e → Leads t p room (walk_at_lem (Within k n e j) s) out (walk_at_lem (Field ((t.set k).start + 1)) s) out
  leads-out k n e j s out l =
      leads-none (walk_at_lem (Within k n e j) s) out (walk_at_lem (Field ((t.set k).start + 1)) s) (led-moved (Within k n e j) (Field ((t.set k).start + 1)) s s (turn-out k n e j s l)) refl

  pub leads-here : (w : Walk) (out : List ℕ) → Leads t p room w out w out
  leads-here w out = leads-none w out w here refl

  -- ## A walk that turns have led on

  pub record Further (w : Walk) (g : Going t p room w) (rs : List Reading) (z : Walk) : Type 0 where
    pub still : Going t p room z
    pub hands : readings t p still.done ≡ readings t p g.done ++ rs
    pub less : heft t p room z ≤ heft t p room w

  pub further : check_of t ≡ Ok tt → (w : Walk) (g : Going t p room w) {rs : List Reading} {z : Walk} → Led t p room w rs z → Further w g rs z
  further ok w g here = record { still = g; hands = sym (append-nil (readings t p g.done)); less = omega arith }
  further ok w g (then rs x h o) =
      let f = further ok w g h in
      let y = (turned t p room ok x f.still).on o in
      let l = y.less in
      let m = f.less in
      record {
        still = y.still;
        hands = y.hands ∙ ap (λ (l : List Reading). l ++ handed (next_of t p room x).answer) f.hands ∙ append_assoc (readings t p g.done) rs (handed (next_of t p room x).answer);
        less = omega (arith, l, m);
      }
