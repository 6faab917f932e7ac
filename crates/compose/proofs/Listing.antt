-- Records and texts, value after value. Assumes nothing.
use mathlib.Core.Path.{◌≡◌, refl, sym, ap, ap₂, ◌∙◌}
use mathlib.Core.Bool.{Bool, true, false, ◌&&◌, and-false}
use mathlib.Core.Logic.{⊎_elim}
use mathlib.Core.List.{List, [], ◌∷◌, ◌++◌}
use Prim.Native.Nat.{ℕ, zero, suc, ◌+◌, ◌≤◌, ◌<◌}
use native.Mathlib.Omega.{arith}
use borrow.Author.Tests.{le-leb, lt-leb, leb-true}
use lib.Dec.{leb}
use lib.ListN.{length, take, drop, length-append}
use lib.Seq.{take_at, length-take-le, take-append-add}
use Rattle.bits.specs.Bits.{pick}
use Rattle.bits.proofs.Written.{below}
use Rattle.std.specs.Prelude.{Option, Some, None}
use Rattle.text.specs.Sheet.{lost, Puts}
use Rattle.text.proofs.Sheets.{stands}
use Rattle.columns.specs.Runs.{over}
use Rattle.compose.specs.declared.entries.Entry.{Entry}
use Rattle.compose.specs.declared.entries.Listed.{Listed}
use Rattle.compose.specs.Values.{Value, number, text, none, value_of}
use Rattle.compose.specs.Records.{low_bytes, record_by, record_of_lem, text_of, is_value, Lists, lists, unlisted, more, lists_from}
use Rattle.compose.specs.Clauses.{entry_of, Told, told, told_by, taken}

-- ## A record has 24 bytes

low-size : (n w : ℕ) → length (low_bytes n w) ≡ n
unfolding low_bytes
low-size zero w = refl
low-size (suc n) w = ap suc (low-size n _)

pub record-size : (head word len : ℕ) → length (record_by head word len) ≡ 24
record-size head word len =
    omega
    (arith, length-append (low_bytes 8 head ++ low_bytes 8 word) (low_bytes 8 len), length-append (low_bytes 8 head) (low_bytes 8 word), length-append (low_bytes 8 head) (low_bytes 8 word ++ low_bytes 8 len), length-append (low_bytes 8 word) (low_bytes 8 len), low-size 8 head, low-size 8 word, low-size 8 len)

-- ## What is known of a value

no_entry : (used : ℕ) (v : Value) → None ≡ entry_of used v → is_value v ≡ false
no_entry used (number kind word) e = cc
no_entry used (text head bytes) e = cc
no_entry used none e = refl

-- an entry is that of a value, and as long as its text
record Entered (used : ℕ) (v : Value) (e : Entry) : Type 0 where
  pub value : is_value v ≡ true
  pub len : e.len ≡ length (text_of v)
  pub is : record_by e.head e.word e.len ≡ record_of_lem used v

some : {e f : Entry} → Some e ≡ Some f → e ≡ f
some h = cc

entered : (used : ℕ) (v : Value) {e : Entry} → Some e ≡ entry_of used v → Entered used v e
entered used (number kind word) h = let k = some h in record { value = refl; len = rw k; is = rw k }
entered used (text head bytes) h = let k = some h in record { value = refl; len = rw k; is = rw k }
entered used none h = cc

abbrev entry_in : Told → Option Entry
entry_in (told e new) = e

abbrev lent_in : Told → List ℕ
lent_in (told e new) = new

-- a value and its text had room: what is known of it, and the lent text after it
record Found (used : ℕ) (old : List ℕ) (v : Value) (e : Entry) (new : List ℕ) : Type 0 where
  pub fits : used + length (text_of v) ≤ length old
  pub is : Some e ≡ entry_of used v
  pub after : new ≡ take used old ++ over (text_of v) (drop used old)

module _ (used : ℕ) (old : List ℕ) (v : Value) {new : List ℕ} where
  found-by : {e : Entry} (t : Bool) → leb (used + length (text_of v)) (length old) ≡ t
      → told (Some e) new ≡ pick t (told (entry_of used v) (take used old ++ over (text_of v) (drop used old))) (told (entry_of used none) old) → Found used old v e new
  found-by true f h = record { fits = leb-true (used + length (text_of v)) (length old) f; is = ap entry_in h; after = ap lent_in h }
  found-by {e} false f h = let k : Some e ≡ None = ap entry_in h in cc

  found : {e : Entry} → told (Some e) new ≡ told_by used old v → Found used old v e new
  found h = found-by (leb (used + length (text_of v)) (length old)) refl h

  missed_by : (t : Bool) → told None new ≡ pick t (told (entry_of used v) (take used old ++ over (text_of v) (drop used old))) (told (entry_of used none) old)
      → (x : Bool) → is_value v && x && t ≡ false
  missed_by true h x = rw (no_entry used v (ap entry_in h))
  missed_by false h x = and-false (is_value v && x)

  missed : told None new ≡ told_by used old v → (x : Bool) → is_value v && x && leb (used + length (text_of v)) (length old) ≡ false
  missed h x = missed_by (leb (used + length (text_of v)) (length old)) h x

-- ## One value more

module _ (listed : Listed) (values old : List ℕ) (v : Value) (l : listed.bytes ≤ length values) (h : listed.text ≤ length old) where
  abbrev test : Bool
  test = is_value v && leb (listed.bytes + 24) (length values) && leb (listed.text + length (text_of v)) (length old)

  abbrev longer : Lists
  longer = lists (take listed.bytes values ++ record_of_lem listed.text v) (take listed.text old ++ text_of v)

  -- what is listed has as many bytes as are counted
  more-is : more (length values) (length old) (taken (Some listed) values old) v ≡ pick test longer unlisted
  more-is = rw (length-take-le listed.bytes values l, length-take-le listed.text old h)

  module _ {r : Option Entry} {new : List ℕ} (t : told r new ≡ told_by listed.text old v) where
    pub none_more : r ≡ None → unlisted ≡ more (length values) (length old) (taken (Some listed) values old) v
    none_more g =
        sym (more-is ∙ ap (λ (b : Bool). pick b longer unlisted) (missed listed.text old v (ap (λ (x : Option Entry). told x new) (sym g) ∙ t) (leb (listed.bytes + 24) (length values))))

    module _ {e : Entry} (g : r ≡ Some e) {values' : List ℕ} {to : ℕ} (small : length values < lost) (p : Puts values listed.bytes (record_by e.head e.word e.len) values' to) where
      f : Found listed.text old v e new
      f = found listed.text old v (ap (λ (x : Option Entry). told x new) (sym g) ∙ t)

      entry : Entered listed.text v e
      entry = entered listed.text v f.is

      size : length (record_by e.head e.word e.len) ≡ 24
      size = record-size e.head e.word e.len

      pub text-within : listed.text + e.len ≤ length old
      text-within = omega (arith, f.fits, entry.len)

      -- the page keeps its length
      same_size : length values' ≡ length values
      same_size = (stands small p).size

      bytes-within : to ≤ length values' → to ≤ length values
      bytes-within k = omega (arith, same_size)

      pub full : length values' < to → unlisted ≡ more (length values) (length old) (taken (Some listed) values old) v
      full k =
          let room = (stands small p).room in
          let past : length values < listed.bytes + 24 =
          ⊎_elim (λ (x : length values < listed.bytes + 24). x) (λ (x : listed.bytes + 24 ≤ length values). absurd (omega (arith, room (omega (arith, size)), size, same_size))) (below (length values) (listed.bytes + 24)) in
          let off : leb (listed.bytes + 24) (length values) ≡ false = lt-leb (listed.bytes + 24) (length values) past in
          sym (more-is ∙ rw (off, entry.value))

      pub one_more : to ≤ length values' → lists (take to values') (take (listed.text + e.len) new) ≡ more (length values) (length old) (taken (Some listed) values old) v
      one_more k =
          let w = (stands small p).whole (bytes-within k) in
          let fit : leb (listed.bytes + 24) (length values) ≡ true = le-leb (listed.bytes + 24) (length values) (omega (arith, w.0, size, bytes-within k)) in
          let room : leb (listed.text + length (text_of v)) (length old) ≡ true = le-leb (listed.text + length (text_of v)) (length old) f.fits in
          let before = length-take-le listed.text old h in
          let texts : take (listed.text + e.len) new ≡ take listed.text old ++ text_of v =
          ap₂ (λ (n : ℕ) (x : List ℕ). take n x) (ap₂ ◌+◌ (sym before) entry.len) f.after
          ∙ take-append-add (take listed.text old) (over (text_of v) (drop listed.text old)) (length (text_of v))
          ∙ ap (λ (x : List ℕ). take listed.text old ++ x) (take_at (text_of v) (drop (length (text_of v)) (drop listed.text old)) (length (text_of v)) refl) in
          ap₂ lists (w.1 ∙ ap (λ (x : List ℕ). take listed.bytes values ++ x) entry.is) texts ∙ sym (more-is ∙ rw (fit, room, entry.value))

-- ## All of them

module _ (room space : ℕ) where
  stays-off : (fields : List (List ℕ)) → lists_from room space unlisted fields ≡ unlisted
  unfolding lists_from
  stays-off [] = refl
  stays-off (s ∷ ss) = stays-off ss

  next-listed : (l : Lists) (s : List ℕ) (ss : List (List ℕ)) → lists_from room space l (s ∷ ss) ≡ lists_from room space (more room space l (value_of s)) ss
  unfolding lists_from
  next-listed l s ss = refl

  all_listed : (l : Lists) → lists_from room space l [] ≡ l
  unfolding lists_from
  all_listed l = refl

  -- a field more
  pub turned : {room' space' : ℕ} → room' ≡ room → space' ≡ space → (l : Lists) {l' x : Lists} {s field : List ℕ} {fields rest : List (List ℕ)}
      → l' ≡ more room' space' l (value_of s) → s ≡ field → fields ≡ field ∷ rest → lists_from room space l fields ≡ x → lists_from room space l' rest ≡ x
  turned e f l {l'} {x} {s} {field} {fields} {rest} h k g w =
      ap (λ (y : Lists). lists_from room space y rest) (h ∙ ap₂ (λ (a b : ℕ). more a b l (value_of s)) e f ∙ ap (λ (z : List ℕ). more room space l (value_of z)) k)
      ∙ sym (ap (lists_from room space l) g ∙ next-listed l field rest)
      ∙ w

  -- no field is left
  pub finished : {l x : Lists} {fields : List (List ℕ)} → fields ≡ [] → lists_from room space l fields ≡ x → l ≡ x
  finished {l} e w = sym (ap (lists_from room space l) e ∙ all_listed l) ∙ w

  -- one field was no value
  pub gone : (fields : List (List ℕ)) {x : Lists} → lists_from room space unlisted fields ≡ x → unlisted ≡ x
  gone fields w = sym (stays-off fields) ∙ w
