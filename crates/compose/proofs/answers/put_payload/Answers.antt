use mathlib.Core.Path.{◌≡◌, ap, ◌∙◌}
use mathlib.Core.List.{List, ◌++◌}
use Prim.Native.Nat.{ℕ, ◌-◌}
use native.Mathlib.Omega.{arith}
use lib.ListN.{take}
use Rattle.hexadecimal.specs.Digits.{digits_of}
use Rattle.text.proofs.Putting.{then, same}
use Rattle.frame_lines.specs.Lines.{pgn_text}
use Rattle.compose.specs.Answers.{payload_text}
use Rattle.compose.proofs.answers.put_payload.Goals as goal

-- the bytes used
framed : (pgn : ℕ) (payload : List ℕ) (used : ℕ) {bytes : List ℕ} → bytes ≡ take (used - 0) payload → pgn_text pgn ++ digits_of bytes ≡ payload_text pgn payload used
framed pgn payload used e =
    let all : used - 0 ≡ used = omega arith in
    ap (λ (s : List ℕ). pgn_text pgn ++ digits_of s) (e ∙ ap (λ (n : ℕ). take n payload) all)

pub returns : goal.returns
returns c = same (framed c.args.pgn c.args.payload.now c.args.used c.part.ensures) (then c.put_fixed_hex.ensures c.put_pairs.ensures)
