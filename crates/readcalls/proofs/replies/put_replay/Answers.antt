-- Both runs hold A5 alone.
use mathlib.Core.Path.{◌≡◌, sym, ap, ◌∙◌}
use mathlib.Core.List.{List, ◌++◌}
use Prim.Native.Nat.{ℕ, ◌+◌, ◌-◌, ◌≤◌}
use native.Mathlib.Omega.{arith}
use lib.ListN.{take, replicate, length-replicate, replicate-append-replicate}
use lib.Seq.{take_at}
use Rattle.text.proofs.Putting.{same}
use Rattle.tables.specs.Table.{table_of}
use Rattle.readcalls.specs.Lines.{untouched, decode_text}
use Rattle.readcalls.proofs.replies.put_replay.Goals as goal

front : (n m a : ℕ) → n ≤ m → take (n - 0) (replicate m a) ≡ replicate n a
front n m a l =
    let first : n - 0 ≡ n = omega arith in
    let rest : m ≡ n + (m - n) = omega arith in
    ap (λ (k : ℕ). take (n - 0) (replicate k a)) rest ∙ ap (take (n - 0)) (sym (replicate-append-replicate n (m - n) a))
    ∙ ap (λ (k : ℕ). take k (replicate n a ++ replicate (m - n) a)) first ∙ take_at (replicate n a) (replicate (m - n) a) n (length-replicate n a)

pub returns : goal.returns
returns c = same (ap (λ (x : List ℕ). decode_text (table_of c.args.words.now) c.args.received.now x c.args.room) (front c.args.padding 300 untouched c.requires)) c.put_both.ensures
