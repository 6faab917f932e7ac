-- Two answers allowed for an input are equal, and so are two contents of the lent buffer: of the contract of `encode` as the source states it, which
-- `is-encode` equates with what stands here. Assumes nothing.
use mathlib.Core.Path.{◌≡◌, refl}
use lib.ListN.{length}
use seplogic.Ra.Ura.{Ura}
use base.Logic.{SProp, emp}
use prog.Memory.{Memory}
use prog.Routine.{Routine}
use types.Logic.{Logic}
use contract.Lifetimes.{Lfts}
use contract.Monad.{Fun, fact}
use denote.Triple.Entry.{Args, Res}
use denote.Triple.Clauses.{AtExit, Clauses}
use Rattle.one_answer.proofs.Fixes.{Fixes, fixed}
use Rattle.tables.specs.Table.{table_of}
use Rattle.writing.specs.Encode.{encoded_of, buffer_after}
use Rattle.lent_values.specs.Run.{values_of}
use Rattle.lent_values.specs.contracts.encode as encode

-- of words, values, lent text and buffer: the answer, and the buffer at exit
abbrev pub Encodes : (κs : Lfts 4) → Args encode.signature κs → Res encode.signature κs → AtExit encode.ended κs → Type 0
Encodes κs a r e =
    (r ≡ encoded_of (table_of a.0.now) (values_of a.1.0.now) (length a.1.1.0.now) (length a.1.1.1.0.now))
    × (e.1.1.1.0.now ≡ buffer_after (table_of a.0.now) (values_of a.1.0.now) a.1.1.0.now a.1.1.1.0.now)

one-encode : Fixes Encodes (λ κs x s. x)
one-encode = fixed (λ κs a x s p. p.0)

same-encode : Fixes Encodes (λ κs x s. s.1.1.1.0.now)
same-encode = fixed (λ κs a x s p. p.1)

-- a contract that asks nothing, and says that
abbrev said : {M : Type 1} (𝓤 : Ura M) → Clauses 𝓤 encode.ended
said 𝓤 κs a = record { ghost = Unit {0}; requires = λ _. emp 𝓤; ensures = λ _ r e. fact 𝓤 (Encodes κs a r e) }

is-encode : {M : Type 1} {𝓤 : Ura M} (𝓛 : Logic 𝓤) (mem : Memory → SProp 𝓤) (run : Routine → Fun 𝓤) → encode.clauses 𝓛 mem run ≡ said 𝓤
is-encode 𝓛 mem run = refl
