-- Two answers allowed for an input are equal: of the contract of each public call as the source states it, `Post`.
-- Assumes nothing.
use Rattle.one_answer.proofs.Fixes.{Fixes, fixed}
use Rattle.messages.proofs.lookup.message_of.Reads as message-of
use Rattle.messages.proofs.Message.table.Reads as table

one-message-of : Fixes message-of.Post (λ κs x s. x)
one-message-of = fixed (λ κs a x s p. p)

one-table : Fixes table.Post (λ κs x s. x.words.now)
one-table = fixed (λ κs a x s p. p)
