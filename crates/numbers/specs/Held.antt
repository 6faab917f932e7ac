-- The values that a machine has. The logic's f32 and encoding byte carry numbers without a bound, the machine's do not: a law that needs the
-- bound asks for it by this name.
use Rattle.std.specs.Prelude.{ℕ, ◌<◌, T, Option, Some, None}
use Rattle.std.specs.Float.{binary32}
use Rattle.std.specs.Float.Ieee.{fits}
use Rattle.descriptor.specs.declared.PgnValue.{PgnValue}
use Rattle.descriptor.specs.declared.PgnValue.TheVariants.{U64, U32, U16, U8, I64, I32, I16, I8, F64, F32, Bytes}

-- an encoding byte is a byte
abbrev pub HeldByte : Option ℕ → Type 0
HeldByte None = Unit {0}
HeldByte (Some x) = x < 256

-- an f32 is one of 32 bits
abbrev pub Held : PgnValue → Type 0
Held (F32 x) = T (fits binary32 x)
Held (Bytes b) = HeldByte b.encoding
Held (F64 x) = Unit {0}
Held (U64 n) = Unit {0}
Held (U32 n) = Unit {0}
Held (U16 n) = Unit {0}
Held (U8 n) = Unit {0}
Held (I64 z) = Unit {0}
Held (I32 z) = Unit {0}
Held (I16 z) = Unit {0}
Held (I8 z) = Unit {0}
