-- The bytes of the word, at their place: each is one byte more of the write.
use mathlib.Core.Path.{◌≡◌, refl, sym, ap, ◌∙◌}
use mathlib.Core.List.{List}
use Prim.Native.Nat.{ℕ, suc, ◌+◌, ◌*◌, ◌/◌, ◌%◌, ◌^◌, ◌≤◌, ◌<◌, ◌-◌}
use native.Mathlib.Nat.{div-one}
use native.Mathlib.Omega.{arith}
use lib.Dec.{lit≤}
use lib.ListN.{length, get_or}
use lib.Seq.{paste, paste-zero, paste-suc}
use Rattle.std.specs.Int.{w64, to_le_bytes}
use Rattle.std.proofs.lemmas.Slice.{put_mid-paste}
use Rattle.bits.specs.Bits.{written}
use Rattle.bits.proofs.Written.{none}
use Rattle.bits.proofs.WordPuts.{put-more}
use Rattle.bits.proofs.runs.put_word.Goals as goal

module _ (s : List ℕ) (q w : ℕ) (room : q + 8 ≤ length s) where
  abbrev bs : List ℕ
  bs = to_le_bytes w64 w

  more : (j k : ℕ) → k ≡ 8 * j → j < 8 → get_or bs j 0 ≡ w / 2 ^ k % 2 ^ 8 → paste s q bs j ≡ written s (q * 8) k w → paste s q bs (suc j) ≡ written s (q * 8) (k + 8) w
  more j k e l v p =
      let d : q + j < length s = omega arith in
      let r : j < length bs = l in
      let m : (q + j) * 8 ≡ q * 8 + k = omega arith in
      let n : k + 8 ≤ 64 = omega arith in
      sym (paste-suc s q bs j 0 d r) ∙ put-more s q w room k (q + j) (get_or bs j 0) p m n v

  all : ((i : ℕ) → get_or s i 0 < 2 ^ 8) → paste s q bs 8 ≡ written s (q * 8) 64 w
  all h =
      more 7 56 refl (lit≤ tt) refl (more 6 48 refl (lit≤ tt) refl (more 5 40 refl (lit≤ tt) refl (more 4 32 refl (lit≤ tt) refl
      (more 3 24 refl (lit≤ tt) refl (more 2 16 refl (lit≤ tt) refl (more 1 8 refl (lit≤ tt) refl
      (more 0 0 refl (lit≤ tt) (ap (λ (x : ℕ). x % 2 ^ 8) (sym (div-one w))) (sym (paste-zero s q bs) ∙ none s (q * 8) w h))))))))

pub returns : goal.returns
returns c =
    put_mid-paste c.args.q (c.args.q + 8 - c.args.q) c.args.s.now c.copy_from_slice.new.self (to_le_bytes w64 c.args.w) 8 (c.copy_from_slice.ensures.after ∙ c.to_le_bytes.ensures) (omega arith) refl
    ∙ all c.args.s.now c.args.q c.args.w c.requires (λ i. (c.slice_known-1.given i).fits)
