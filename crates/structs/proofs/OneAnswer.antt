-- Two answers allowed for an input are equal, and so are two padding runs and two runs of structs: of the contract of each public call as the source states it;
-- that of `decode_run` stands here as `Says`, which a line by `refl` equates with the source's. Assumes nothing.
use mathlib.Core.Path.{◌≡◌, refl}
use lib.ListN.{length}
use seplogic.Ra.Ura.{Ura}
use base.Logic.{SProp, emp}
use prog.Memory.{Memory}
use prog.Routine.{Routine}
use types.Logic.{Logic}
use contract.Lifetimes.{Lfts}
use contract.Monad.{Fun, fact}
use denote.Triple.Entry.{Args, Res}
use denote.Triple.Clauses.{AtExit, Clauses}
use Rattle.one_answer.proofs.Fixes.{Fixes, fixed}
use Rattle.tables.specs.Table.{table_of}
use Rattle.reading.specs.Filling.{run_after}
use Rattle.reading.specs.Decode.{decoded_of_lem}
use Rattle.structs.specs.Structs.{structs_after}
use Rattle.structs.proofs.record_of.Reads as record_of
use Rattle.structs.proofs.RecordEntry.of.Reads as of
use Rattle.structs.specs.contracts.decode_run as decode-run

one-record-of : Fixes record_of.Post (λ κs x s. x)
one-record-of = fixed (λ κs a x s p. p)

one-of : Fixes of.Post (λ κs x s. x)
one-of = fixed (λ κs a x s p. p)

-- the contract of `decode_run`: of words, received payload, padding run and run of structs
abbrev pub Says : (κs : Lfts 4) → Args decode-run.signature κs → Res decode-run.signature κs → AtExit decode-run.ended κs → Type 0
Says κs a r e =
    (r ≡ decoded_of_lem (table_of a.0.now) a.1.0.now (length a.1.1.0.now) (length a.1.1.1.0.now))
    × ((e.1.1.0.now ≡ run_after (table_of a.0.now) a.1.0.now a.1.1.0.now)
    × (e.1.1.1.0.now ≡ structs_after (table_of a.0.now) a.1.0.now (length a.1.1.0.now) a.1.1.1.0.now))

one-decode-run : Fixes Says (λ κs x s. x)
one-decode-run = fixed (λ κs a x s p. p.0)

same-padding : Fixes Says (λ κs x s. s.1.1.0.now)
same-padding = fixed (λ κs a x s p. p.1.0)

same-structs : Fixes Says (λ κs x s. s.1.1.1.0.now)
same-structs = fixed (λ κs a x s p. p.1.1)

module _ {M : Type 1} {𝓤 : Ura M} (𝓛 : Logic 𝓤) (mem : Memory → SProp 𝓤) (run : Routine → Fun 𝓤) where
  abbrev plainly : Clauses 𝓤 decode-run.ended
  plainly κs a = record { ghost = Unit {0}; requires = λ _. emp 𝓤; ensures = λ _ r e. fact 𝓤 (Says κs a r e) }

  is-decode-run : decode-run.clauses 𝓛 mem run ≡ plainly
  is-decode-run = refl
