-- A run of a program, turn by turn: what is written, and what is still owed for what is still to come, are the text of the whole input. Assumes nothing.
use Rattle.std.proofs.Common.{◌≡◌, refl, sym, ap, ◌∙◌, subst, ℕ, suc, ◌+◌, ◌-◌, ◌≤◌, ◌<◌, ◌⊎◌, ⊎_elim, List, [], ◌∷◌, ◌++◌, Bool, true, false, not, ◌||◌, ◌&&◌, eqb, ltb, length, take, drop, get_or, Option, None, Some, Result, Ok, Err, IsErr, IfSome, if◌then◌else◌, arith, append_assoc, append-nil, length-take-le, get_or-take, drop-drop, length-drop, take-append-drop}
use Rattle.std.proofs.lemmas.Bool.{le-leb, ltb-false}
use Rattle.std.proofs.lemmas.List.{drop-take}
use Rattle.std.proofs.Math.Seq.{take-append_seam, take_all}
use Rattle.std.specs.Io.KnownBytes.{Appends, Consumes, IsAtEnd}
use Rattle.std.proofs.KnownBytes.{Appends-nil, Appends-trans}
use Rattle.bits.specs.Bits.{pick}
use Rattle.text.specs.Sheet.{sheet, lost}
use Rattle.lines.specs.Machine.{Machine, passed, pass_of, pass_from, text_from, text_of, owes, newline, is_open, closed}
use Rattle.lines.specs.Held.{nothing_held, store, held, capped}
use Rattle.lines.specs.declared.Held.{Held}
use Rattle.lines.proofs.Capped.{exact}
use Rattle.lines.proofs.Conserved.{Conserves, conserved}
use Rattle.textio.specs.declared.Io.{Io}
use Rattle.textio.specs.Io.{start_io, due_in, moved_to, read_io, last_io, Reads, Fetches, chunk_of, fetched, IsLast, IsOver, Begins}
use Rattle.textio.specs.Run.{Prints, rest_of, unread, coming}

never : {A : Type 0} → ◌≡◌ {A = Bool} true false → A
never e = let z : ◌≡◌ {A = ℕ} 0 1 = cc in absurd (omega arith)

-- ## Whether an input ends within a line

open-append : (t : Bool) (xs ys : List ℕ) → is_open t (xs ++ ys) ≡ is_open (is_open t xs) ys
unfolding is_open
open-append t [] ys = refl
open-append t (x ∷ xs) ys = open-append (pick (eqb x newline) false true) xs ys

open-last : (t : Bool) (xs : List ℕ) → 0 < length xs → is_open t xs ≡ not (eqb (get_or xs (length xs - 1) 0) newline)
unfolding is_open
open-last t [] some = absurd (omega arith)
open-last t (x ∷ []) some = go (eqb x newline)
  where
    go : (b : Bool) → pick b false true ≡ not b
    go true = refl
    go false = refl
open-last t (x ∷ y ∷ ys) some =
    let e : suc (length (y ∷ ys) - 1) ≡ length (x ∷ y ∷ ys) - 1 = omega arith in
    open-last (pick (eqb x newline) false true) (y ∷ ys) (omega arith)
    ∙ ap (λ (i : ℕ). not (eqb (get_or (x ∷ y ∷ ys) i 0) newline)) e

open-nil : (t : Bool) → is_open t [] ≡ t
unfolding is_open
open-nil t = refl

owes-none : {K : Type 0} (m : Machine K) (k : K) → owes m k false [] ≡ []
unfolding text_from
owes-none m k = refl

-- ## A reader's bytes

left_known : (xs : List ℕ) (left : Option (List ℕ)) (bs : List ℕ) → Consumes (Some xs) left bs → (ys : List ℕ) × (left ≡ Some ys) × (xs ≡ bs ++ ys)
left_known xs None bs e = absurd e
left_known xs (Some ys) bs e = (ys, refl, e)

one_byte : (xs : List ℕ) → 0 < length xs → take 1 xs ≡ get_or xs 0 0 ∷ []
one_byte [] h = absurd (omega arith)
one_byte (x ∷ xs) h = refl

no-some : {A : Type 0} {E : Type 0} {x : Io} → ◌≡◌ {A = Result (Option Io) E} (Ok None) (Ok (Some x)) → A
no-some {A} {E} e = never (ap none e)
  where
    none : Result (Option Io) E → Bool
    none (Ok (Some z)) = false
    none (Ok None) = true
    none (Err z) = true

ok-some : {E : Type 0} {x y : Io} → ◌≡◌ {A = Result (Option Io) E} (Ok (Some x)) (Ok (Some y)) → x ≡ y
ok-some {E} {x} e = ap got e
  where
    got : Result (Option Io) E → Io
    got (Ok (Some z)) = z
    got (Ok None) = x
    got (Err z) = x

pick-same : (t : Bool) (xs : List ℕ) → pick t xs xs ≡ xs
pick-same true xs = refl
pick-same false xs = refl

-- ## A run

module _ {K : Type 0} (m : Machine K) (text : List ℕ) (old : Option (List ℕ)) where
  -- a run on its way: what is held, where it stands, the chunk, what the reader has left and what the writer holds
  pub record Along (k : K) (at : Io) (chunk : List ℕ) (left now : Option (List ℕ)) : Type 0 where
    pub done : List ℕ
    pub wrote : Appends old now done
    pub within : (at.from ≤ at.to) × (at.to ≤ length chunk)
    pub rest : List ℕ
    pub known : left ≡ Some rest
    pub owed : done ++ owes m k at.waits (coming at chunk rest) ≡ text

  -- what is written so far is a beginning of it all
  pub begun : {k : K} {at : Io} {chunk : List ℕ} {left now : Option (List ℕ)} → Along k at chunk left now → Begins old now text
  begun {now = now} a = (length a.done, subst (Appends old now) (sym (ap (take (length a.done)) (sym a.owed) ∙ take-append_seam a.done _)) a.wrote)

  -- ## `fetch`

  module _ (at : Io) (chunk : List ℕ) (within : (at.from ≤ at.to) × (at.to ≤ length chunk)) where
    idle_by : (w b : Bool) → (w || b) && (true && true) ≡ false → (w ≡ false) × (b ≡ false)
    idle_by true b e = never e
    idle_by false true e = never e
    idle_by false false e = (refl, refl)

    -- no call is due: no line waits, and the chunk is all taken
    idle : due_in at (length chunk) ≡ false → (at.waits ≡ false) × (at.to ≤ at.from)
    idle e =
        let a = le-leb at.from at.to within.0 in
        let b = le-leb at.to (length chunk) within.1 in
        let f : (at.waits || ltb at.from at.to) && (true && true) ≡ false = rw (a, b) at e in
        let r = idle_by at.waits (ltb at.from at.to) f in
        (r.0, ltb-false at.from at.to r.1)

    none_left : at.to ≤ at.from → rest_of at chunk ≡ []
    none_left l = let e : at.to - at.from ≡ 0 = omega arith in ap (λ (i : ℕ). take i (drop at.from chunk)) e

  module _ {E : Type 0} (k : K) (at : Io) (chunk : List ℕ) (left now : Option (List ℕ)) (a : Along k at chunk left now)
      (r : Result (Option Io) E) (chunk' : List ℕ) (left' : Option (List ℕ)) (f : Fetches r chunk' at chunk)
      (took : Consumes left left' (fetched (due_in at (length chunk)) r chunk')) where
    -- what the reader has left
    left_after : (bs : List ℕ) → Consumes left left' bs → (ys : List ℕ) × (left' ≡ Some ys) × (a.rest ≡ bs ++ ys)
    left_after bs e = left_known a.rest left' bs (subst (λ (x : Option (List ℕ)). Consumes x left' bs) a.known e)

    -- no call was due
    module _ (d : due_in at (length chunk) ≡ false) where
      taken : Consumes left left' (chunk_of r chunk')
      taken = subst (λ (b : Bool). Consumes left left' (fetched b r chunk')) d took

      still : (at.waits ≡ false) × (at.to ≤ at.from)
      still = idle at chunk a.within d

      all_unread : coming at chunk a.rest ≡ unread at a.rest
      all_unread = ap (λ (xs : List ℕ). xs ++ unread at a.rest) (none_left at chunk a.within still.1)

    -- ### The input has ended, with nothing owed

    module _ (is : r ≡ Ok None) (over : IsOver at left') where
      not-due : due_in at (length chunk) ≡ false
      not-due = go (due_in at (length chunk)) refl
        where
          go : (b : Bool) → due_in at (length chunk) ≡ b → b ≡ false
          go true e = no-some (sym is ∙ (f.due e).0)
          go false e = refl

      nothing : unread at a.rest ≡ []
      nothing =
          let k = left_after [] (subst (λ (x : Result (Option Io) E). Consumes left left' (chunk_of x chunk')) is (taken not-due)) in
          ⊎_elim (λ (y : at.ended ≡ true). ap (λ (b : Bool). pick b [] (a.rest ++ pick (is_open at.inside a.rest) (newline ∷ []) [])) y)
          (λ (y : (at.inside ≡ false) × IsAtEnd left').
          let gone : IsAtEnd (Some k.0) = subst IsAtEnd k.1 y.1 in
          let none : a.rest ≡ [] = k.2 ∙ gone in
          ap (λ (xs : List ℕ). pick at.ended [] (xs ++ pick (is_open at.inside xs) (newline ∷ []) [])) none
          ∙ ap (λ (b : Bool). pick at.ended [] (pick b (newline ∷ []) [])) (open-nil at.inside ∙ y.0)
          ∙ pick-same at.ended [])
          over

      pub finished : Appends old now text
      finished =
          let all : a.done ≡ text =
          sym (append-nil a.done)
          ∙ ap (λ (xs : List ℕ). a.done ++ xs) (sym (owes-none m k))
          ∙ ap (λ (xs : List ℕ). a.done ++ owes m k false xs) (sym (all_unread not-due ∙ nothing))
          ∙ ap (λ (b : Bool). a.done ++ owes m k b (coming at chunk a.rest)) (sym (still not-due).0)
          ∙ a.owed in
          subst (Appends old now) all a.wrote

    -- ### A chunk is handed on

    module _ (at' : Io) (is : r ≡ Ok (Some at')) (within : (at'.from ≤ at'.to) × (at'.to ≤ length chunk)) (size : length chunk' ≡ length chunk)
        (at_end : due_in at (length chunk) ≡ false → IsLast r left') where
      bounds : (at'.from ≤ at'.to) × (at'.to ≤ length chunk')
      bounds = (within.0, omega (arith, within.1, size))

      abbrev Handed : Type 0
      Handed = Along k at' chunk' left' now

      -- the same is still to come
      goes_on : (ys : List ℕ) → left' ≡ Some ys → at'.waits ≡ at.waits → coming at' chunk' ys ≡ coming at chunk a.rest → Handed
      goes_on ys e w c = record {
        done = a.done;
        wrote = a.wrote;
        within = bounds;
        rest = ys;
        known = e;
        owed = ap (λ (b : Bool). a.done ++ owes m k b (coming at' chunk' ys)) w ∙ ap (λ (xs : List ℕ). a.done ++ owes m k at.waits xs) c ∙ a.owed;
      }

      due : due_in at (length chunk) ≡ true → Handed
      due d =
          let e : at' ≡ at = ok-some (sym is ∙ (f.due d).0) in
          let g : Consumes left left' [] = subst (λ (b : Bool). Consumes left left' (fetched b r chunk')) d took in
          let k = left_after [] g in
          let same_io : coming at' chunk' k.0 ≡ coming at chunk a.rest =
          ap (λ (x : Io). coming x chunk' k.0) e ∙ ap (λ (xs : List ℕ). coming at xs k.0) (f.due d).1 ∙ ap (coming at chunk) (sym k.2) in
          goes_on k.0 k.1 (ap (λ (x : Io). x.waits) e) same_io

      module _ (d : due_in at (length chunk) ≡ false) where
        -- an input that goes on has not ended
        not-ended : at.ended ≡ false
        not-ended = go at.ended refl
          where
            go : (b : Bool) → at.ended ≡ b → b ≡ false
            go true e = no-some (sym (f.over d e) ∙ is)
            go false e = refl

        took_by : (b : Bool) → at'.ended ≡ b → Consumes left left' (if b then [] else take at'.to chunk')
        took_by b e =
            subst (λ (x : Bool). Consumes left left' (if x then [] else take at'.to chunk')) e
            (subst (λ (x : Result (Option Io) E). Consumes left left' (chunk_of x chunk')) is (taken d))

        unread_is : unread at a.rest ≡ a.rest ++ pick (is_open at.inside a.rest) (newline ∷ []) []
        unread_is = ap (λ (b : Bool). pick b [] (a.rest ++ pick (is_open at.inside a.rest) (newline ∷ []) [])) not-ended

        -- the newline that the last line lacks
        ends : at' ≡ last_io at → at.inside ≡ true → get_or chunk' 0 0 ≡ 10 → Handed
        ends e inside byte =
            let ended : at'.ended ≡ true = ap (λ (x : Io). x.ended) e in
            let from : at'.from ≡ 0 = ap (λ (x : Io). x.from) e in
            let to : at'.to ≡ 1 = ap (λ (x : Io). x.to) e in
            let k = left_after [] (took_by true ended) in
            let last : IsLast {E = E} (Ok (Some at')) left' = subst (λ (x : Result (Option Io) E). IsLast x left') is (at_end d) in
            let gone : IsAtEnd (Some k.0) = subst IsAtEnd k.1 (last ended) in
            let none : a.rest ≡ [] = k.2 ∙ gone in
            let some : 0 < length chunk' = omega (arith, bounds.1, to) in
            let line : take 1 chunk' ≡ newline ∷ [] = one_byte chunk' some ∙ ap (λ (b : ℕ). b ∷ []) byte in
            let size : at'.to - at'.from ≡ 1 = omega (arith, from, to) in
            let mine : coming at' chunk' k.0 ≡ newline ∷ [] =
            ap (λ (i : ℕ). take i (drop at'.from chunk') ++ unread at' k.0) size
            ∙ ap (λ (i : ℕ). take 1 (drop i chunk') ++ unread at' k.0) from
            ∙ ap (λ (b : Bool). take 1 chunk' ++ pick b [] (k.0 ++ pick (is_open at'.inside k.0) (newline ∷ []) [])) ended
            ∙ append-nil (take 1 chunk') ∙ line in
            let theirs : coming at chunk a.rest ≡ newline ∷ [] =
            all_unread d ∙ unread_is
            ∙ ap (λ (xs : List ℕ). xs ++ pick (is_open at.inside xs) (newline ∷ []) []) none
            ∙ ap (λ (b : Bool). pick b (newline ∷ []) []) (open-nil at.inside ∙ inside) in
            goes_on k.0 k.1 (ap (λ (x : Io). x.waits) e) (mine ∙ sym theirs)

        -- a chunk
        reads : at' ≡ read_io at at'.to chunk' → 0 < at'.to → Handed
        reads e some =
            let n = at'.to in
            let ended : at'.ended ≡ false = ap (λ (x : Io). x.ended) e in
            let from : at'.from ≡ 0 = ap (λ (x : Io). x.from) e in
            let inside : at'.inside ≡ not (eqb (get_or chunk' (n - 1) 0) 10) = ap (λ (x : Io). x.inside) e in
            let k = left_after (take n chunk') (took_by false ended) in
            let long : length (take n chunk') ≡ n = length-take-le n chunk' bounds.1 in
            let opens : is_open at.inside (take n chunk') ≡ at'.inside =
            open-last at.inside (take n chunk') (omega (arith, long, some))
            ∙ ap (λ (i : ℕ). not (eqb (get_or (take n chunk') (i - 1) 0) newline)) long
            ∙ ap (λ (b : ℕ). not (eqb b newline)) (get_or-take n chunk' (n - 1) 0 (omega (arith, some)))
            ∙ sym inside in
            let closing : is_open at.inside a.rest ≡ is_open at'.inside k.0 =
            ap (is_open at.inside) k.2 ∙ open-append at.inside (take n chunk') k.0 ∙ ap (λ (b : Bool). is_open b k.0) opens in
            let size : n - at'.from ≡ n = omega (arith, from) in
            let mine : coming at' chunk' k.0 ≡ take n chunk' ++ (k.0 ++ pick (is_open at'.inside k.0) (newline ∷ []) []) =
            ap (λ (i : ℕ). take i (drop at'.from chunk') ++ unread at' k.0) size
            ∙ ap (λ (i : ℕ). take n (drop i chunk') ++ unread at' k.0) from
            ∙ ap (λ (b : Bool). take n chunk' ++ pick b [] (k.0 ++ pick (is_open at'.inside k.0) (newline ∷ []) [])) ended in
            let theirs : coming at chunk a.rest ≡ take n chunk' ++ (k.0 ++ pick (is_open at'.inside k.0) (newline ∷ []) []) =
            all_unread d ∙ unread_is
            ∙ ap (λ (b : Bool). a.rest ++ pick b (newline ∷ []) []) closing
            ∙ ap (λ (xs : List ℕ). xs ++ pick (is_open at'.inside k.0) (newline ∷ []) []) k.2
            ∙ append_assoc (take n chunk') k.0 _ in
            goes_on k.0 k.1 (ap (λ (x : Io). x.waits) e) (mine ∙ sym theirs)

        fresh : Handed
        fresh =
            let was : Reads {E = E} (Ok (Some at')) chunk' at = subst (λ (x : Result (Option Io) E). Reads x chunk' at) is (f.fresh d) in
            ⊎_elim (λ (y : (at' ≡ last_io at) × ((at.inside ≡ true) × (get_or chunk' 0 0 ≡ 10))). ends y.0 y.1.0 y.1.1)
            (λ (y : (at' ≡ read_io at at'.to chunk') × (0 < at'.to)). reads y.0 y.1) was

      pub handed : Handed
      handed = go (due_in at (length chunk)) refl
        where
          go : (b : Bool) → due_in at (length chunk) ≡ b → Handed
          go true d = due d
          go false d = fresh d

  -- ## A call, and `store`

  module _ (k : K) (at : Io) (chunk : List ℕ) (left now : Option (List ℕ)) (a : Along k at chunk left now)
      (page : List ℕ) (small : length page < lost) (k' : K) (w' : Bool) (n : ℕ) (page' : List ℕ) (to : ℕ)
      (called : passed k' w' n page' to ≡ pass_of m k at.waits (rest_of at chunk) (sheet page 0)) (now' : Option (List ℕ)) where
    turn : Conserves m k at.waits (rest_of at chunk) page 0 k' w' n page' to
    turn = conserved m k at.waits (rest_of at chunk) page 0 small (omega arith) (sym called)

    -- what the call puts, and what is owed then
    owes_then : a.done ++ (take to page' ++ owes m k' w' (drop n (rest_of at chunk) ++ unread at a.rest)) ≡ text
    owes_then = ap (λ (xs : List ℕ). a.done ++ xs) (turn.text (unread at a.rest)) ∙ a.owed

    few : n ≤ at.to - at.from
    few = omega (arith, turn.few, length-take-le (at.to - at.from) (drop at.from chunk) (omega (arith, a.within, length-drop at.from chunk)))

    -- the rest of the chunk, after what the call took of it
    rest_then : rest_of (moved_to at (at.from + n) w') chunk ≡ drop n (rest_of at chunk)
    rest_then =
        let e : at.to - at.from ≡ n + (at.to - (at.from + n)) = omega (arith, few, a.within.0) in
        sym
        (ap (λ (i : ℕ). drop n (take i (drop at.from chunk))) e
        ∙ drop-take n (at.to - (at.from + n)) (drop at.from chunk)
        ∙ ap (take (at.to - (at.from + n))) (drop-drop n at.from chunk))

    pub stored : (at' : Io) → at' ≡ moved_to at (at.from + n) w' → Appends now now' (take to page') → Along k' at' chunk left now'
    stored at' e written =
        let from : at'.from ≡ at.from + n = ap (λ (x : Io). x.from) e in
        let end : at'.to ≡ at.to = ap (λ (x : Io). x.to) e in
        let now_owed : owes m k' at'.waits (coming at' chunk a.rest) ≡ owes m k' w' (drop n (rest_of at chunk) ++ unread at a.rest) =
        ap (λ (x : Io). owes m k' x.waits (coming x chunk a.rest)) e ∙ ap (λ (xs : List ℕ). owes m k' w' (xs ++ unread at a.rest)) rest_then in
        record {
          done = a.done ++ take to page';
          wrote = Appends-trans old now now' a.done (take to page') a.wrote written;
          within = (omega (arith, from, end, few, a.within.0), omega (arith, end, a.within.1));
          rest = a.rest;
          known = a.known;
          owed = ap (λ (xs : List ℕ). (a.done ++ take to page') ++ xs) now_owed ∙ append_assoc a.done (take to page') _ ∙ owes_then;
        }

    -- where a write fails a beginning of it all is written
    pub broken : Begins now now' (take to page') → Begins old now' text
    broken part =
        let all : (a.done ++ take part.0 (take to page')) ++ (drop part.0 (take to page') ++ owes m k' w' (drop n (rest_of at chunk) ++ unread at a.rest)) ≡ text =
        append_assoc a.done (take part.0 (take to page')) _
        ∙ ap (λ (xs : List ℕ). a.done ++ xs) (sym (append_assoc (take part.0 (take to page')) (drop part.0 (take to page')) _))
        ∙ ap (λ (xs : List ℕ). a.done ++ (xs ++ owes m k' w' (drop n (rest_of at chunk) ++ unread at a.rest))) (take-append-drop part.0 (take to page'))
        ∙ owes_then in
        let wrote : Appends old now' (a.done ++ take part.0 (take to page')) = Appends-trans old now now' a.done (take part.0 (take to page')) a.wrote part.1 in (
          length (a.done ++ take part.0 (take to page')),
          subst (Appends old now') (sym (ap (take (length (a.done ++ take part.0 (take to page')))) (sym all) ∙ take-append_seam (a.done ++ take part.0 (take to page')) _)) wrote,
        )

-- ## The start

starts : {K : Type 0} (m : Machine K) (k : K) (chunk input : List ℕ) (now : Option (List ℕ)) → Along m (text_from m k (closed input)) now k start_io chunk (Some input) now
starts m k chunk input now = record {
  done = [];
  wrote = Appends-nil now;
  within = (omega arith, omega arith);
  rest = input;
  known = refl;
  owed = refl;
}

pub begins : {K : Type 0} (m : Machine K) (k : K) (at : Io) (chunk input : List ℕ) (left now : Option (List ℕ)) → at ≡ start_io → left ≡ Some input
    → Along m (text_from m k (closed input)) now k at chunk left now
begins m k at chunk input left now f g = rw (f, g) (starts m k chunk input now)

-- ## The end

pub ended : {E : Type 0} (old now : Option (List ℕ)) (text : List ℕ) → Appends old now text → Prints {E = E} (Ok tt) old now text
ended old now text w = record { begun = (length text, subst (Appends old now) (sym (take_all (length text) text (omega arith))) w); whole = w }

pub failed : {E : Type 0} {r : Result (Unit {0}) E} (old now : Option (List ℕ)) (text : List ℕ) → IsErr r → Begins old now text → Prints r old now text
failed {r = Ok x} old now text is b = never (sym is)
failed {r = Err x} old now text is b = record { begun = b; whole = tt }

-- what is promised where the bytes are known
pub if_known : (left : Option (List ℕ)) (P : List ℕ → Type 0) → ((input : List ℕ) → left ≡ Some input → P input) → IfSome left P
if_known None P h = tt
if_known (Some input) P h = h input refl

-- .. may be told otherwise
pub known_of : (left : Option (List ℕ)) (P Q : List ℕ → Type 0) → ((input : List ℕ) → P input → Q input) → IfSome left P → IfSome left Q
known_of None P Q h p = tt
known_of (Some input) P Q h p = h input p

-- what a run writes that holds its lines is the text of its lines alone
pub printed-lines : (answered : List ℕ → List ℕ) (size : ℕ) (h : Held) (buffer : List ℕ) (left old new : Option (List ℕ)) {E : Type 0} (r : Result (Unit {0}) E) → h ≡ nothing_held → length buffer ≡ size
    → IfSome left (λ bytes. Prints r old new (text_from (held answered) (store h buffer) (closed bytes)))
    → IfSome left (λ bytes. Prints r old new (text_of (capped size answered) bytes))
printed-lines answered size h buffer None old new r e n p = tt
printed-lines answered size h buffer (Some bytes) old new r e n p =
    subst (Prints r old new)
    (ap (λ (x : Held). text_from (held answered) (store x buffer) (closed bytes)) e ∙ exact answered buffer (closed bytes) ∙ ap (λ (i : ℕ). text_of (capped i answered) bytes) n)
    p
