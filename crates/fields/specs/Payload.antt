-- A payload as document 01, "Reading a payload", sees it: its length, and the number in n bits from a place. Nothing else is asked of it.
use Rattle.std.specs.Prelude.{ℕ, List, length}
use Rattle.bits.specs.Bits.{bits_at}
use Rattle.bits.specs.Calls.{cursor_at, remaining_of}

pub record Payload : Type 0 where
  -- in bytes
  pub size : ℕ
  -- from this bit on, so many bits
  pub bits : ℕ → ℕ → ℕ

abbrev pub payload_of : List ℕ → Payload
payload_of bytes = record { size = length bytes; bits = bits_at bytes }

-- the bits from a place to the end
abbrev pub bits_left : Payload → ℕ → ℕ
bits_left p at = (remaining_of p.size (cursor_at at)).0
