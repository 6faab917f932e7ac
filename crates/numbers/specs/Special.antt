-- The raws that say something other than a number: document 01, "Reading a payload".
use Rattle.std.specs.Prelude.{ℕ, ◌-◌, ◌%◌, ◌^◌, Bool, true, false, leb, ltb, eqb}
use Rattle.bits.specs.Bits.{pick}
use Rattle.descriptor.specs.declared.FieldDescriptor.{FieldDescriptor}
use Rattle.descriptor.specs.declared.Availability.{Availability}
use Rattle.descriptor.specs.declared.Availability.TheVariants.{Available, NotAvailable}
use Rattle.numbers.specs.declared.ScaleRule.{ScaleRule}
use Rattle.numbers.specs.declared.ScaleRule.TheVariants.{Plain, Counted, Lasting, Clock, Real, Flags}
use Rattle.numbers.specs.Scaling.{rule_of_lem, bits_of}

-- the largest number of n bits: "all ones if unsigned or the largest positive if signed"
abbrev pub top_of : ℕ → Bool → ℕ
top_of n true = 2 ^ (n - 1) - 1
top_of n false = 2 ^ n - 1

-- "Not available: [..] for raws other than Float, [that number], at 2 bits or more. All else is available"
abbrev pub raw_availability_of : ℕ → Bool → ℕ → Availability
raw_availability_of n signed raw = pick (leb 2 n) (pick (eqb raw (top_of n signed)) NotAvailable Available) Available

-- "NaN in Float": the exponent all ones and digits that are not all zero, which is above the infinity's pattern
abbrev pub float_availability_of : ℕ → Availability
float_availability_of raw = pick (ltb 0x7f80_0000 (raw % 2 ^ 31)) NotAvailable Available

-- of a number field's raw
abbrev pub by_rule : ScaleRule → ℕ → Bool → ℕ → Availability
by_rule Real n signed raw = float_availability_of raw
by_rule Plain n signed raw = raw_availability_of n signed raw
by_rule Counted n signed raw = raw_availability_of n signed raw
by_rule Lasting n signed raw = raw_availability_of n signed raw
by_rule Clock n signed raw = raw_availability_of n signed raw
by_rule Flags n signed raw = raw_availability_of n signed raw

abbrev pub number_availability_of : FieldDescriptor → ℕ → Availability
number_availability_of f raw = by_rule (rule_of_lem f.kind) (bits_of f) f.signed (raw % 2 ^ bits_of f)

-- "Group count: the counter's raw, 0 if all ones", for a counter of n bits
abbrev pub meant_by : ℕ → ℕ → ℕ
meant_by n raw = pick (eqb raw (top_of n false)) 0 raw

abbrev pub elements_of : ℕ → ℕ → ℕ
elements_of n raw = meant_by n (raw % 2 ^ n)
