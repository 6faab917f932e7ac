-- The 64 bits of a part of 8 bytes are those of the whole where it stands.
use Rattle.std.proofs.Common.{rules}
use mathlib.Core.Path.{◌≡◌, sym, ap, ap₂, ◌∙◌}
use mathlib.Core.List.{List}
use Prim.Native.Nat.{ℕ, ◌+◌, ◌-◌, ◌*◌, ◌/◌, ◌%◌, ◌≤◌, ◌<◌}
use native.Mathlib.Omega.{arith}
use lib.ListN.{length, get_or, take, drop, length-drop}
use lib.Seq.{get_or-take, get_or-drop, length-take-le}
use Rattle.std.specs.Prelude.{Ok}
use Rattle.bits.specs.Bits.{bit, bits_at}
use Rattle.bits.specs.Calls.{cursor_at, moved_by, room_of, width_max, read_in, read_u64_of}
use Rattle.bits.proofs.Sums.{sum-ext}
use Rattle.offers.specs.Records.{word_at}
use Rattle.offers.proofs.rows.word_at.Goals as goal

part-bits : (s : List ℕ) (q : ℕ) → bits_at (take 8 (drop q s)) 0 64 ≡ word_at s q
part-bits s q = sum-ext _ _ 64 (λ j l.
    let x : (q * 8 + j) / 8 ≡ q + (0 + j) / 8 = omega arith in
    let y : (q * 8 + j) % 8 ≡ (0 + j) % 8 = omega arith in
    let h : (0 + j) / 8 < 8 = omega arith in
    ap (λ (b : ℕ). bit b ((0 + j) % 8)) (get_or-take 8 (drop q s) ((0 + j) / 8) 0 h ∙ get_or-drop q s ((0 + j) / 8) 0) ∙ sym (ap₂ (λ (k m : ℕ). bit (get_or s k 0) m) x y))

read : (s : List ℕ) (q : ℕ) → q + 8 ≤ length s → read_u64_of (take (q + 8 - q) (drop q s)) (cursor_at 0) 64 ≡ Ok (record { value = word_at s q; next = moved_by (cursor_at 0) 64 })
read s q h =
    let e : length (take 8 (drop q s)) ≡ 8 = length-take-le 8 (drop q s) (omega (arith, h, length-drop q s)) in
    let w : q + 8 - q ≡ 8 = omega arith in
    ap (λ (n : ℕ). read_u64_of (take n (drop q s)) (cursor_at 0) 64) w
    ∙ ap (λ (n : ℕ). read_in (room_of n 0 64 width_max) (take 8 (drop q s)) (cursor_at 0) 64) e
    ∙ ap (λ (w : ℕ). Ok (record { value = w; next = moved_by (cursor_at 0) 64 })) (part-bits s q)

pub unwrap-requires : goal.unwrap-requires
unwrap-requires c = rw (c.read_u64.ensures ∙ read c.args.s.now c.args.q c.requires) (search rules)

pub returns : goal.returns
returns c = let r = sym c.unwrap.ensures ∙ c.read_u64.ensures ∙ read c.args.s.now c.args.q c.requires in cc
