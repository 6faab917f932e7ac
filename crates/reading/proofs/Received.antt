-- What was received, with the bits of one span written, and the working payload of it. Assumes nothing.
use mathlib.Core.Path.{◌≡◌, refl, sym, ap, ◌∙◌}
use mathlib.Core.Logic.{⊎_elim}
use mathlib.Core.Bool.{Bool, true, false}
use mathlib.Core.List.{List, [], ◌++◌, append-nil}
use Prim.Native.Nat.{ℕ, ◌+◌, ◌-◌, ◌*◌, ◌/◌, ◌%◌, ◌^◌, ◌≤◌, ◌<◌}
use native.Mathlib.Omega.{arith}
use lib.ListN.{length, get_or, replicate, length-append, get_or-append}
use lib.Seq.{get_or-append-add}
use Rattle.bits.specs.Bits.{pick, bit, bit_at, bits_at, written}
use Rattle.bits.proofs.Written.{below, put-before, put-after, bit-written, read_back}
use Rattle.bits.proofs.Laws.{run-local, length-written}
use Rattle.tables.specs.Table.{Table}
use Rattle.reading.specs.Filling.{fills, working_of}
use Rattle.reading.specs.Demand3.{Filling}
use Rattle.reading.proofs.Local.{Agree}

-- ## Bits of a list that was added to

bit-left : (l e : List ℕ) (i : ℕ) → i < length l * 8 → bit_at (l ++ e) i ≡ bit_at l i
bit-left l e i h = ap (λ (x : ℕ). bit x (i % 8)) (get_or-append l e 0 (i / 8) (omega arith))

-- past the list, by its length alone
bit-right : (l l' e : List ℕ) (i : ℕ) → length l ≡ length l' → length l * 8 ≤ i → bit_at (l ++ e) i ≡ bit_at (l' ++ e) i
bit-right l l' e i q h =
    let j : ℕ = i / 8 - length l in
    let a : i / 8 ≡ length l + j = omega arith in
    let c : length l' + j ≡ i / 8 = omega arith in
    ap (λ (x : ℕ). bit x (i % 8))
    (ap (λ (k : ℕ). get_or (l ++ e) k 0) a ∙ get_or-append-add l e j 0 ∙ sym (get_or-append-add l' e j 0) ∙ ap (λ (k : ℕ). get_or (l' ++ e) k 0) c)

-- ## The working payload

-- filling with 0xFF keeps the received bytes and goes by their number alone
pub working-fills : (t : Table) → Filling (working_of t)
working-fills t = record {
  added = λ (n : ℕ). pick (fills t n) (replicate (t.length - n) 0xff) [];
  fills = λ (received : List ℕ). go received (fills t (length received)) (replicate (t.length - length received) 0xff);
}
  where
    go : (l : List ℕ) (b : Bool) (e : List ℕ) → pick b (l ++ e) l ≡ l ++ pick b e []
    go l true e = refl
    go l false e = sym (append-nil l)

module _ (fill : List ℕ → List ℕ) (f : Filling fill) (received : List ℕ) (at n x : ℕ) (inside : at + n ≤ 8 * length received) where
  abbrev changed : List ℕ
  changed = written received at n x

  abbrev rest : List ℕ
  rest = f.added (length received)

  filled : fill changed ≡ changed ++ rest
  filled = f.fills changed ∙ ap (λ (m : ℕ). changed ++ f.added m) (length-written received at n x)

  -- it is as long as it was
  pub still-long : length (fill changed) ≡ length (fill received)
  still-long =
      ap length filled ∙ length-append changed rest ∙ ap (λ (m : ℕ). m + length rest) (length-written received at n x)
      ∙ sym (ap length (f.fills received) ∙ length-append received rest)

  -- a bit outside the span, in the received bytes or after them
  still-bit : (i : ℕ) → (i < length received * 8 → bit_at received i ≡ bit_at changed i) → bit_at (fill received) i ≡ bit_at (fill changed) i
  still-bit i h =
      let g : length changed ≡ length received = length-written received at n x in
      ap (λ (l : List ℕ). bit_at l i) (f.fills received)
      ∙ ⊎_elim
      (λ (l : i < length received * 8). bit-left received rest i l ∙ h l ∙ sym (bit-left changed rest i (omega arith)))
      (λ (l : length received * 8 ≤ i). bit-right received changed rest i (sym g) l)
      (below i (length received * 8))
      ∙ sym (ap (λ (l : List ℕ). bit_at l i) filled)

  pub agree-below : (lo hi : ℕ) → hi ≤ at → Agree (bits_at (fill received)) (bits_at (fill changed)) lo hi
  agree-below lo hi u a m l h = run-local (fill received) (fill changed) a m (λ k g. still-bit (a + k) (λ b. sym (bit-written received at n x (a + k) b ∙ put-before received at n x (a + k) (omega arith))))

  pub agree-above : (lo hi : ℕ) → at + n ≤ lo → Agree (bits_at (fill received)) (bits_at (fill changed)) lo hi
  agree-above lo hi u a m l h = run-local (fill received) (fill changed) a m (λ k g. still-bit (a + k) (λ b. sym (bit-written received at n x (a + k) b ∙ put-after received at n x (a + k) (omega arith))))

  -- the span has the new bits
  pub new-bits : bits_at (fill changed) at n ≡ x % 2 ^ n
  new-bits =
      let g : length changed ≡ length received = length-written received at n x in
      ap (λ (l : List ℕ). bits_at l at n) filled
      ∙ run-local (changed ++ rest) changed at n (λ k l. bit-left changed rest (at + k) (omega arith))
      ∙ read_back received at n x (omega arith)
