-- Laws of putting numbers into a run. Assumes nothing.
use mathlib.Core.Path.{◌≡◌, refl, sym, ap, ap₂, ◌∙◌}
use mathlib.Core.List.{List, [], ◌∷◌, ◌++◌, append-nil, append_assoc}
use Prim.Native.Nat.{ℕ, zero, suc, ◌+◌, ◌*◌, ◌/◌, ◌%◌, ◌≤◌}
use native.Mathlib.Omega.{arith}
use lib.ListN.{length, set, take, drop, length-set, length-append, take-append-drop}
use lib.Seq.{take-suc-set, drop-set-lt, set_out}
use Rattle.reading.specs.declared.Reading.{Reading}
use Rattle.records.specs.Layout.{bytes_of, laid, record_of_lem, records}
use Rattle.records.specs.Puts.{puts}

-- ## Lengths

pub length-bytes : (n x : ℕ) → length (bytes_of n x) ≡ n
unfolding bytes_of
length-bytes zero x = refl
length-bytes (suc n) x = ap suc (length-bytes n _)

pub length-laid : (ws : List ℕ) → length (laid ws) ≡ 8 * length ws
unfolding laid
length-laid [] = refl
length-laid (w ∷ ws) =
    let h = length-append (bytes_of 8 w) (laid ws) in
    let b = length-bytes 8 w in
    let l = length-laid ws in
    omega (arith, h, b, l)

pub length-record : (r : Reading) → length (laid (record_of_lem r)) ≡ 64
length-record r = length-laid (record_of_lem r)

pub length-records : (rs : List Reading) → length (records rs) ≡ 64 * length rs
unfolding records
length-records [] = refl
length-records (r ∷ rs) =
    let h = length-append (laid (record_of_lem r)) (records rs) in
    let b = length-record r in
    let l = length-records rs in
    omega (arith, h, b, l)

pub length-puts : (xs : List ℕ) (at : ℕ) (ys : List ℕ) → length (puts xs at ys) ≡ length xs
unfolding puts
length-puts xs at [] = refl
length-puts xs at (y ∷ ys) = length-puts (set xs at y) (at + 1) ys ∙ length-set xs at y

-- ## One after another

pub puts_then : (xs : List ℕ) (at : ℕ) (ys zs : List ℕ) → puts (puts xs at ys) (at + length ys) zs ≡ puts xs at (ys ++ zs)
unfolding puts
puts_then xs at [] zs = let e : at + 0 ≡ at = omega arith in ap (λ (n : ℕ). puts xs n zs) e
puts_then xs at (y ∷ ys) zs =
    let e : at + length (y ∷ ys) ≡ (at + 1) + length ys = omega arith in
    ap (λ (n : ℕ). puts (puts (set xs at y) (at + 1) ys) n zs) e ∙ puts_then (set xs at y) (at + 1) ys zs

pub records-append : (rs qs : List Reading) → records (rs ++ qs) ≡ records rs ++ records qs
unfolding records
records-append [] qs = refl
records-append (r ∷ rs) qs =
    ap (λ (l : List ℕ). laid (record_of_lem r) ++ l) (records-append rs qs) ∙ sym (append_assoc (laid (record_of_lem r)) (records rs) (records qs))

pub one-record : (r : Reading) → records (r ∷ []) ≡ laid (record_of_lem r)
unfolding records
one-record r = append-nil (laid (record_of_lem r))

-- ## What the run then holds

pub puts-in : (xs : List ℕ) (at : ℕ) (ys : List ℕ) → at + length ys ≤ length xs → puts xs at ys ≡ take at xs ++ (ys ++ drop (at + length ys) xs)
unfolding puts
puts-in xs at [] l = let e : at + 0 ≡ at = omega arith in sym (take-append-drop at xs) ∙ ap (λ (n : ℕ). take at xs ++ drop n xs) (sym e)
puts-in xs at (y ∷ ys) l =
    let n : length (set xs at y) ≡ length xs = length-set xs at y in
    let e : (at + 1) + length ys ≡ at + length (y ∷ ys) = omega arith in
    let s : take (at + 1) (set xs at y) ≡ take at xs ++ (y ∷ []) = ap (λ (k : ℕ). take k (set xs at y)) (suc_one at) ∙ take-suc-set xs at y (omega (arith, l)) in
    let d : drop ((at + 1) + length ys) (set xs at y) ≡ drop (at + length (y ∷ ys)) xs = drop-set-lt ((at + 1) + length ys) xs at y (omega arith) ∙ ap (λ (k : ℕ). drop k xs) e in
    puts-in (set xs at y) (at + 1) ys (omega (arith, l, n))
    ∙ ap₂ (λ (h : List ℕ) (k : List ℕ). h ++ (ys ++ k)) s d
    ∙ append_assoc (take at xs) (y ∷ []) (ys ++ drop (at + length (y ∷ ys)) xs)
  where
    suc_one : (k : ℕ) → k + 1 ≡ suc k
    suc_one k = omega arith

-- the eight bytes of a word
pub eight : (xs : List ℕ) (at w b0 b1 b2 b3 b4 b5 b6 b7 : ℕ) → b0 ≡ w % 256 → b1 ≡ w / 256 % 256 → b2 ≡ w / 256 / 256 % 256 → b3 ≡ w / 256 / 256 / 256 % 256
    → b4 ≡ w / 256 / 256 / 256 / 256 % 256 → b5 ≡ w / 256 / 256 / 256 / 256 / 256 % 256 → b6 ≡ w / 256 / 256 / 256 / 256 / 256 / 256 % 256
    → b7 ≡ w / 256 / 256 / 256 / 256 / 256 / 256 / 256 % 256
    → set (set (set (set (set (set (set (set xs at b0) (at + 1) b1) (at + 1 + 1) b2) (at + 1 + 1 + 1) b3) (at + 1 + 1 + 1 + 1) b4) (at + 1 + 1 + 1 + 1 + 1) b5) (at + 1 + 1 + 1 + 1 + 1 + 1) b6) (at + 1 + 1 + 1 + 1 + 1 + 1 + 1) b7
    ≡ puts xs at (bytes_of 8 w)
unfolding puts bytes_of
eight xs at w b0 b1 b2 b3 b4 b5 b6 b7 h0 h1 h2 h3 h4 h5 h6 h7 = rw (h0, h1, h2, h3, h4, h5, h6, h7) refl

-- ## Words one after another

-- a word, then the others
pub put-more : (ws xs ys zs : List ℕ) (at w : ℕ) → ys ≡ puts xs at (bytes_of 8 w) → zs ≡ puts ys (at + 8) (laid ws) → zs ≡ puts xs at (laid (w ∷ ws))
unfolding laid
put-more ws xs ys zs at w h k =
    k ∙ ap (λ (l : List ℕ). puts l (at + 8) (laid ws)) h
    ∙ ap (λ (n : ℕ). puts (puts xs at (bytes_of 8 w)) (at + n) (laid ws)) (sym (length-bytes 8 w)) ∙ puts_then xs at (bytes_of 8 w) (laid ws)

pub put_last : (xs zs : List ℕ) (at w : ℕ) → zs ≡ puts xs at (bytes_of 8 w) → zs ≡ puts xs at (laid (w ∷ []))
unfolding laid
put_last xs zs at w h = h ∙ ap (puts xs at) (sym (append-nil (bytes_of 8 w)))

-- ## Past the end

pub puts-past : (xs : List ℕ) (at : ℕ) (ys : List ℕ) → length xs ≤ at → puts xs at ys ≡ xs
unfolding puts
puts-past xs at [] l = refl
puts-past xs at (y ∷ ys) l =
    let e : set xs at y ≡ xs = set_out xs at y l in
    let m = length-set xs at y in
    puts-past (set xs at y) (at + 1) ys (omega (arith, l, m)) ∙ e
