-- A word's bytes, the lowest first: those that std's `to_le_bytes` gives are those of specs/Records.antt. Assumes nothing.
use Rattle.std.proofs.Common.{◌≡◌, refl, sym, ap, ◌∙◌, ℕ, ◌*◌, ◌/◌, ◌%◌, List, [], ◌∷◌, arith}
use Rattle.std.specs.Int.{to_le_bytes, w64}
use Rattle.std.proofs.Math.Nat.{div-div-eq-div-mul}
use Rattle.compose.specs.Records.{low_bytes}

pub spelled : (w : ℕ) → to_le_bytes w64 w ≡ low_bytes 8 w
unfolding low_bytes
spelled w = simp div-div-eq-div-mul refl
