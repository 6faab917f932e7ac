-- Decoding by the number of a message whose table is built in.
use Rattle.std.specs.Prelude.{ℕ, List, Option, Some, None}
use Rattle.tables.specs.Table.{table_of}
use Rattle.messages.specs.declared.Message.{Message}
use Rattle.messages.specs.Messages.{message_of_lem, words_of}
use Rattle.reading.specs.declared.Decoded.{Decoded}
use Rattle.records.specs.Into.{decoded_into, out_after}

-- what comes of the words of a message's table, or of a PGN that has none
abbrev pub of_known : {A : Type 0} → (List ℕ → A) → A → Option Message → A
of_known f none (Some m) = f (words_of m)
of_known f none None = none

-- "Also built in: 129025, 129029 [..], and ours, 130900", beside 129026: the same by the PGN
abbrev pub of_built_in : {A : Type 0} → ℕ → (List ℕ → A) → A → A
of_built_in pgn f none = of_known f none (message_of_lem pgn)

abbrev pub by_pgn_of : ℕ → List ℕ → ℕ → ℕ → Option Decoded
by_pgn_of pgn received padded out = of_built_in pgn (λ ws. Some (decoded_into (table_of ws) received padded out)) None

-- the buffer after the call: an unknown PGN touches nothing
abbrev pub out_by_pgn : ℕ → List ℕ → ℕ → List ℕ → List ℕ
out_by_pgn pgn received padded out = of_built_in pgn (λ ws. out_after (table_of ws) received padded out) out
