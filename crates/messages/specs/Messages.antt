-- Which messages are built in, and the table of each: document 01, the end of "Cases".
use Rattle.std.specs.Prelude.{ℕ, List, Option, Some, None, eqb}
use Rattle.bits.specs.Bits.{pick}
use Rattle.messages.specs.Tables.{words129025, words129026, words129029, words130900}
use Rattle.messages.specs.declared.Message.{Message}
use Rattle.messages.specs.declared.Message.TheVariants.{M129025, M129026, M129029, M130900}

-- "Also built in: 129025, 129029 [..], and ours, 130900", beside 129026: the message of a PGN, if it has one
abbrev pub message_of_lem : ℕ → Option Message
message_of_lem pgn =
    pick (eqb pgn 129025) (Some M129025)
    (pick (eqb pgn 129026) (Some M129026)
    (pick (eqb pgn 129029) (Some M129029) (pick (eqb pgn 130900) (Some M130900) None)))

-- the table of each, in words
abbrev pub words_of : Message → List ℕ
words_of M129025 = words129025
words_of M129026 = words129026
words_of M129029 = words129029
words_of M130900 = words130900
