-- Two answers allowed for an input are equal, and so are two contents of what is lent: of the contract as the source states it, which a line by `refl`
-- equates with what stands here. Assumes nothing.
use mathlib.Core.Path.{◌≡◌, refl}
use lib.ListN.{length}
use seplogic.Ra.Ura.{Ura}
use base.Logic.{SProp, emp}
use prog.Memory.{Memory}
use prog.Routine.{Routine}
use types.Logic.{Logic}
use contract.Lifetimes.{Lfts}
use contract.Monad.{Fun, fact}
use denote.Triple.Entry.{Args, Res}
use denote.Triple.Clauses.{AtExit, Clauses}
use Rattle.one_answer.proofs.Fixes.{Fixes, fixed}
use Rattle.tables.specs.Table.{table_of}
use Rattle.reading.specs.Filling.{run_after}
use Rattle.reading.specs.Decode.{decoded_of_lem}
use Rattle.structs.specs.Structs.{structs_after}
use Rattle.samopute_c.specs.Decodes.{decoded_status, cells_of}
use Rattle.samopute_run.specs.contracts.samopute_decode_run as decode-run

-- of words, payload, padding run, array and answer
abbrev DecodeRun : (κs : Lfts 5) → Args decode-run.signature κs → Res decode-run.signature κs → AtExit decode-run.ended κs → Type 0
DecodeRun κs a r e =
    (r ≡ decoded_status (decoded_of_lem (table_of a.0.now) a.1.0.now (length a.1.1.0.now) (length a.1.1.1.0.now)))
    × ((e.1.1.0.now ≡ run_after (table_of a.0.now) a.1.0.now a.1.1.0.now)
    × ((e.1.1.1.0.now ≡ structs_after (table_of a.0.now) a.1.0.now (length a.1.1.0.now) a.1.1.1.0.now)
    × (e.1.1.1.1.0.now ≡ cells_of (table_of a.0.now) (length a.1.0.now) (decoded_of_lem (table_of a.0.now) a.1.0.now (length a.1.1.0.now) (length a.1.1.1.0.now)))))

one-decode-run : Fixes DecodeRun (λ κs x s. x)
one-decode-run = fixed (λ κs a x s p. p.0)

padding-decode-run : Fixes DecodeRun (λ κs x s. s.1.1.0.now)
padding-decode-run = fixed (λ κs a x s p. p.1.0)

structs-decode-run : Fixes DecodeRun (λ κs x s. s.1.1.1.0.now)
structs-decode-run = fixed (λ κs a x s p. p.1.1.0)

answer-decode-run : Fixes DecodeRun (λ κs x s. s.1.1.1.1.0.now)
answer-decode-run = fixed (λ κs a x s p. p.1.1.1)

module _ {M : Type 1} {𝓤 : Ura M} (𝓛 : Logic 𝓤) (mem : Memory → SProp 𝓤) (run : Routine → Fun 𝓤) where
  abbrev plainly : Clauses 𝓤 decode-run.ended
  plainly κs a = record { ghost = Unit {0}; requires = λ _. emp 𝓤; ensures = λ _ r e. fact 𝓤 (DecodeRun κs a r e) }

  is-decode-run : decode-run.clauses 𝓛 mem run ≡ plainly
  is-decode-run = refl
