-- The invariant: k bytes are stored.
use mathlib.Core.Path.{◌≡◌, sym, ap, ap₂, ◌∙◌}
use mathlib.Core.List.{List}
use mathlib.Core.Bool.{true}
use Prim.Native.Nat.{ℕ, ◌+◌, ◌*◌, ◌/◌, ◌≤◌, ◌<◌}
use native.Mathlib.Omega.{arith}
use lib.ListN.{length, get_or, set}
use Rattle.hexadecimal.specs.Digits.{value_of, all_digits_lem, pairs_of}
use Rattle.hexadecimal.proofs.Inverse.{length_pairs}
use Rattle.columns.proofs.Lists.{front, front_length, front-more, front-all}
use Rattle.columns.proofs.Filling.{digit_at, pair-at}
use Rattle.columns.proofs.runs.store_pairs.Goals as goal

-- the two digits at a place, and room for their byte
pub record Here (s old buffer : List ℕ) (k high low : ℕ) : Type 0 where
  pub top : high < 16
  pub bottom : low < 16
  pub byte : high * 16 + low ≡ get_or (pairs_of s) k 0
  pub among : k < length (pairs_of s)
  pub room : k < length old
  pub size : length buffer ≡ length old

found : {s old buffer : List ℕ} {k high low : ℕ} → high ≡ value_of (get_or s (2 * k) 0) → low ≡ value_of (get_or s (2 * k + 1) 0) → all_digits_lem s ≡ true
    → length (pairs_of s) ≤ length old → k < length s / 2 → buffer ≡ front k (pairs_of s) old → Here s old buffer k high low
found {s} {old} {buffer} {k} {high} {low} e f a r t b =
    let n = length_pairs s in
    let room : k < length old = omega (arith, n, r, t) in
    record {
      top = omega (arith, e, digit_at s (2 * k) a (omega arith));
      bottom = omega (arith, f, digit_at s (2 * k + 1) a (omega arith));
      byte = ap₂ (λ (x y : ℕ). x * 16 + y) e f ∙ sym (pair-at s k t);
      among = omega (arith, n, t);
      room = room;
      size = ap length b ∙ front_length k (pairs_of s) old (omega (arith, n, t)) (omega (arith, room));
    }

pub overflow_cast-buffer : goal.overflow_cast-buffer
overflow_cast-buffer c =
    let h = found c.value_of-high.ensures c.value_of-low.ensures c.requires.0 c.requires.1 c.loop-k-test.true c.loop-k.invariant in omega (arith, h.top, h.bottom)

pub bounds-buffer-k : goal.bounds-buffer-k
bounds-buffer-k c =
    let h = found c.value_of-high.ensures c.value_of-low.ensures c.requires.0 c.requires.1 c.loop-k-test.true c.loop-k.invariant in omega (arith, h.room, h.size)

pub loop-k-preserved : goal.loop-k-preserved
loop-k-preserved c =
    let h = found c.value_of-high.ensures c.value_of-low.ensures c.requires.0 c.requires.1 c.loop-k-test.true c.loop-k.invariant in
    ap₂ (λ (ws : List ℕ) (x : ℕ). set ws c.loop-k.k x) c.loop-k.invariant h.byte ∙ front-more c.loop-k.k (pairs_of c.args.s.now) c.args.buffer.now h.among h.room

pub returns : goal.returns
returns c =
    let n = length_pairs c.args.s.now in
    c.loop-k.invariant ∙ front-all c.loop-k.k (pairs_of c.args.s.now) c.args.buffer.now (omega (arith, n))
