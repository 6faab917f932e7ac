-- "It is proved that two answers allowed for an input are equal": and so are two padding runs and two runs of readings. Of the contract as the source states
-- it, which a line by `refl` equates with what stands here. Assumes nothing.
use mathlib.Core.Path.{◌≡◌, refl}
use lib.ListN.{length}
use seplogic.Ra.Ura.{Ura}
use base.Logic.{SProp, emp}
use prog.Memory.{Memory}
use prog.Routine.{Routine}
use types.Logic.{Logic}
use contract.Lifetimes.{Lfts}
use contract.Monad.{Fun, fact}
use denote.Param.Laws.{Laws, IsCopy}
use denote.RattleType.{RattleType}
use denote.Triple.Entry.{Args, Res}
use denote.Triple.Clauses.{AtExit, Clauses}
use mir.Syntax.{Dict}
use Rattle.one_answer.proofs.Fixes.{Fixes, fixed}
use Rattle.tables.specs.Table.{table_of}
use Rattle.reading.specs.Filling.{run_after}
use Rattle.reading.specs.Decode.{decoded_of_lem}
use Rattle.lent_readings.specs.Run.{entries_after}
use Rattle.std.specs.declared.clone.Clone as clone
use Rattle.lent_readings.specs.declared.Entry as entry
use Rattle.lent_readings.specs.contracts.decode as decode
use Rattle.lent_readings.proofs.decode_as.Reads as decode-as
use Rattle.lent_readings.proofs.ReadingEntry.of.Reads as of
use Rattle.lent_readings.proofs.steps.fresh.Reads as fresh
use Rattle.lent_readings.proofs.steps.turn.Reads as turn
use Rattle.lent_readings.proofs.steps.stores.Reads as stores
use Rattle.lent_readings.proofs.steps.place_of.Reads as place_of
use Rattle.lent_readings.proofs.steps.reading_of.Reads as reading-of
use Rattle.lent_readings.proofs.steps.is_over.Reads as is-over
use Rattle.lent_readings.proofs.steps.decoded_of.Reads as decoded-of

-- the contract of `decode`: of words, received payload, padding run and run of readings
abbrev pub Decode : (κs : Lfts 4) → Args decode.signature κs → Res decode.signature κs → AtExit decode.ended κs → Type 0
Decode κs a r e =
    (r ≡ decoded_of_lem (table_of a.0.now) a.1.0.now (length a.1.1.0.now) (length a.1.1.1.0.now))
    × ((e.1.1.0.now ≡ run_after (table_of a.0.now) a.1.0.now a.1.1.0.now)
    × (e.1.1.1.0.now ≡ entries_after (table_of a.0.now) a.1.0.now (length a.1.1.0.now) a.1.1.1.0.now))

one-decode : Fixes Decode (λ κs x s. x)
one-decode = fixed (λ κs a x s p. p.0)

same-padding : Fixes Decode (λ κs x s. s.1.1.0.now)
same-padding = fixed (λ κs a x s p. p.1.0)

same_entries : Fixes Decode (λ κs x s. s.1.1.1.0.now)
same_entries = fixed (λ κs a x s p. p.1.1)

-- it is the contract of the source
module _ {M : Type 1} {𝓤 : Ura M} (𝓛 : Logic 𝓤) (mem : Memory → SProp 𝓤) (run : Routine → Fun 𝓤) where
  abbrev plainly : Clauses 𝓤 decode.ended
  plainly κs a = record { ghost = Unit {0}; requires = λ _. emp 𝓤; ensures = λ _ r e. fact 𝓤 (Decode κs a r e) }

  is-decode : decode.clauses 𝓛 mem run ≡ plainly
  is-decode = refl

-- `decode_as`, of whatever an `Entry` makes of each reading.
module _ (E : RattleType) (laws : Laws E) (copied : IsCopy E) (as-entry : entry.Ghosts E.Denot) (entry-dict : Dict) (as-clone : clone.Ghosts E.Denot) (clone-dict : Dict) where
  one-decode-as : Fixes (decode-as.Post E laws copied as-entry entry-dict as-clone clone-dict) (λ κs x s. x)
  one-decode-as = fixed (λ κs a x s p. p.0)

  same-padding-as : Fixes (decode-as.Post E laws copied as-entry entry-dict as-clone clone-dict) (λ κs x s. s.1.1.0.now)
  same-padding-as = fixed (λ κs a x s p. p.1.0)

  same-entries-as : Fixes (decode-as.Post E laws copied as-entry entry-dict as-clone clone-dict) (λ κs x s. s.1.1.1.0.now)
  same-entries-as = fixed (λ κs a x s p. p.1.1)

-- What a run of readings holds of a reading.

one-of : Fixes of.Post (λ κs x s. x)
one-of = fixed (λ κs a x s p. p)

-- The turns.

one-fresh : Fixes fresh.Post (λ κs x s. x)
one-fresh = fixed (λ κs a x s p. p)

one-turn : Fixes turn.Post (λ κs x s. x)
one-turn = fixed (λ κs a x s p. p.0)

same_turn : Fixes turn.Post (λ κs x s. s.1.1.0.now)
same_turn = fixed (λ κs a x s p. p.1)

one-stores : Fixes stores.Post (λ κs x s. x)
one-stores = fixed (λ κs a x s p. p)

one-place-of : Fixes place_of.Post (λ κs x s. x)
one-place-of = fixed (λ κs a x s p. p)

one-reading-of : Fixes reading-of.Post (λ κs x s. x)
one-reading-of = fixed (λ κs a x s p. p)

one-is-over : Fixes is-over.Post (λ κs x s. x)
one-is-over = fixed (λ κs a x s p. p)

one-decoded-of : Fixes decoded-of.Post (λ κs x s. x)
one-decoded-of = fixed (λ κs a x s p. p)
