-- The table check accepts the table of each built-in message, and none fills a payload: computed from the definitions that its contract cites.
-- Assumes nothing.
use mathlib.Core.Path.{◌≡◌, refl}
use lib.Ieee.{of_bits, of_fields, odd, le, lt, eq}
use Rattle.std.specs.Prelude.{Ok}
use Rattle.tables.specs.Table.{table_of}
use Rattle.tables.specs.Rules.{in_sets_lem, declared_bits_lem}
use Rattle.tables.specs.Check.{found_from, check_of}
use Rattle.messages.specs.declared.Message.{Message}
use Rattle.messages.specs.declared.Message.TheVariants.{M129025, M129026, M129029, M130900}
use Rattle.messages.specs.Messages.{words_of}

pub accepted : (m : Message) → check_of (table_of (words_of m)) ≡ Ok tt
unfolding found_from in_sets_lem declared_bits_lem of_bits of_fields odd le lt eq
accepted M129025 = refl
accepted M129026 = refl
accepted M129029 = refl
accepted M130900 = refl

-- none has a minimum, so a payload is read as it was received
pub no-minimum : (m : Message) → (table_of (words_of m)).minimum ≡ 0
no-minimum M129025 = refl
no-minimum M129026 = refl
no-minimum M129029 = refl
no-minimum M130900 = refl
