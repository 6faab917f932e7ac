-- What is said before the first field, by the tests. Assumes nothing.
use Rattle.std.specs.Prelude.{Err}
use mathlib.Core.Path.{◌≡◌}
use Prim.Native.Nat.{ℕ, ◌<◌}
use borrow.Author.Tests.{lt-ltb}
use Rattle.bits.specs.Calls.{bytes}
use Rattle.tables.specs.Table.{Table}
use Rattle.tables.specs.Check.{payload_max}
use Rattle.weighing.specs.declared.EncodeRefusal.TheVariants.{WrongLength}
use Rattle.writing.specs.Encode.{begun_of}

pub begun-long : (t : Table) (size : ℕ) → payload_max < size → Err (WrongLength (bytes size)) ≡ begun_of t size
begun-long t size l = rw (lt-ltb payload_max size l)
