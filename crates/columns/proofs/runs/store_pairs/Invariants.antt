-- The invariant: k bytes are stored.
use mathlib.Core.Path.{◌≡◌}
use Rattle.hexadecimal.specs.Digits.{pairs_of}
use Rattle.columns.proofs.Lists.{front}
use Rattle.columns.proofs.runs.store_pairs.Given as goal

abbrev pub invariant-loop-k : goal.invariant-loop-k
invariant-loop-k l = l.buffer ≡ front l.k (pairs_of l.s) l.initial.buffer
