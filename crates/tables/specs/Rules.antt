-- The table rules b to h, of one field or one set each: document 01, "Table rules".
use Rattle.std.specs.Prelude.{ℕ, ◌+◌, ◌-◌, ◌%◌, zero, suc, Bool, true, false, not, ◌&&◌, ◌||◌, leb, ltb, eqb, pos, negsuc, Float}
use Rattle.std.specs.Float.{fin}
use Rattle.std.specs.Float.Ieee.{le}
use Rattle.descriptor.specs.declared.FieldKind.{FieldKind}
use Rattle.descriptor.specs.declared.FieldKind.TheVariants as kind
use Rattle.descriptor.specs.declared.FieldDescriptor.{FieldDescriptor}
use Rattle.descriptor.specs.declared.Resolution.{Resolution}
use Rattle.descriptor.specs.declared.Resolution.TheVariants.{Unscaled, Single, Double}
use Rattle.tables.specs.declared.KindClass.{KindClass}
use Rattle.tables.specs.declared.KindClass.TheVariants.{Numeric, Counted, Lasting, Clock, Bits, Real, Gap, Fixed, Lz, Lau, Raw, Unknown}
use Rattle.tables.specs.Table.{Table}

-- the kinds, grouped by what the rules say of them
abbrev pub class_of_lem : FieldKind → KindClass
class_of_lem kind.Number = Numeric
class_of_lem kind.Lookup = Numeric
class_of_lem kind.IndirectLookup = Numeric
class_of_lem kind.Pgn = Numeric
class_of_lem kind.IsoName = Numeric
class_of_lem kind.Date = Counted
class_of_lem kind.Mmsi = Counted
class_of_lem kind.Duration = Lasting
class_of_lem kind.Time = Clock
class_of_lem kind.BitLookup = Bits
class_of_lem kind.Float = Real
class_of_lem kind.Reserved = Gap
class_of_lem kind.Spare = Gap
class_of_lem kind.StringFix = Fixed
class_of_lem kind.StringLz = Lz
class_of_lem kind.StringLau = Lau
class_of_lem kind.Binary = Raw
class_of_lem kind.Decimal = Unknown
class_of_lem kind.Unimplemented = Unknown

-- b: "Kinds: .." all of the Rust's but Decimal and Unimplemented
abbrev pub known : KindClass → Bool
known Unknown = false
known Numeric = true
known Counted = true
known Lasting = true
known Clock = true
known Bits = true
known Real = true
known Gap = true
known Fixed = true
known Lz = true
known Lau = true
known Raw = true

-- lo to hi
abbrev pub within : ℕ → ℕ → ℕ → Bool
within lo hi n = leb lo n && leb n hi

-- "a multiple of 8 from 8 to 1,784"
abbrev pub whole_bytes_lem : ℕ → Bool
whole_bytes_lem w = eqb (w % 8) 0 && within 8 1784 w

-- c: "Width 1 to 64; Float 32; StringFix a multiple of 8 from 8 to 1,784; Binary such a multiple, or a non-multiple up to 63;
-- StringLz and StringLau none"
abbrev pub width_fits_lem : KindClass → ℕ → Bool
width_fits_lem Real w = eqb w 32
width_fits_lem Fixed w = whole_bytes_lem w
width_fits_lem Raw w = whole_bytes_lem w || (not (eqb (w % 8) 0) && leb w 63)
width_fits_lem Lz w = eqb w 0
width_fits_lem Lau w = eqb w 0
width_fits_lem Numeric w = within 1 64 w
width_fits_lem Counted w = within 1 64 w
width_fits_lem Lasting w = within 1 64 w
width_fits_lem Clock w = within 1 64 w
width_fits_lem Bits w = within 1 64 w
width_fits_lem Gap w = within 1 64 w
width_fits_lem Unknown w = within 1 64 w

-- d: "A resolution only on Number, Lookup, IndirectLookup, Pgn, IsoName, Date, Mmsi, Duration, Time"
abbrev pub scales : KindClass → Bool
scales Numeric = true
scales Counted = true
scales Lasting = true
scales Clock = true
scales Bits = false
scales Real = false
scales Gap = false
scales Fixed = false
scales Lz = false
scales Lau = false
scales Raw = false
scales Unknown = false

-- "an f32 from 2^-64 to 2^20"
abbrev pub in_scale_lem : Float → Bool
in_scale_lem r = le (fin false 1 (negsuc 63)) r && le r (fin false 1 (pos 20))

abbrev pub resolution_fits_lem : KindClass → Resolution → Bool
resolution_fits_lem c Unscaled = true
resolution_fits_lem c (Single r) = scales c && in_scale_lem r
resolution_fits_lem c (Double r) = scales c && in_scale_lem r

abbrev pub scaled : Resolution → Bool
scaled Unscaled = false
scaled (Single r) = true
scaled (Double r) = true

-- e: "Signed only on the first five of d, and on Duration with resolution. Date and Mmsi without resolution: 16 or 32 bits"
abbrev pub sign_fits_lem : KindClass → ℕ → Bool → Bool → Bool
sign_fits_lem Numeric w signed res = true
sign_fits_lem Lasting w signed res = not signed || res
sign_fits_lem Counted w signed res = not signed && (res || eqb w 16 || eqb w 32)
sign_fits_lem Clock w signed res = not signed
sign_fits_lem Bits w signed res = not signed
sign_fits_lem Real w signed res = not signed
sign_fits_lem Gap w signed res = not signed
sign_fits_lem Fixed w signed res = not signed
sign_fits_lem Lz w signed res = not signed
sign_fits_lem Lau w signed res = not signed
sign_fits_lem Raw w signed res = not signed
sign_fits_lem Unknown w signed res = not signed

-- field i is in set k
abbrev pub in_set : Table → ℕ → ℕ → Bool
in_set t i k = leb (t.set k).start i && ltb (i - (t.set k).start) (t.set k).size

-- field i is in one of the first m sets
unfoldable pub in_sets_lem : Table → ℕ → ℕ → Bool
in_sets_lem t i zero = false
in_sets_lem t i (suc m) = in_sets_lem t i m || in_set t i m

-- f: "StringLz only as the last field, outside a set"
abbrev pub last_only : KindClass → Bool
last_only Lz = true
last_only Numeric = false
last_only Counted = false
last_only Lasting = false
last_only Clock = false
last_only Bits = false
last_only Real = false
last_only Gap = false
last_only Fixed = false
last_only Lau = false
last_only Raw = false
last_only Unknown = false

abbrev pub place_fits_lem : Table → ℕ → Bool
place_fits_lem t i = not (last_only (class_of_lem (t.field i).kind)) || (eqb (i + 1) t.count && not (in_sets_lem t i t.sets))

-- the widths of the n fields from field i on, added up: a field without a width adds nothing
unfoldable pub declared_bits_lem : Table → ℕ → ℕ → ℕ
declared_bits_lem t i zero = 0
declared_bits_lem t i (suc n) = declared_bits_lem t i n + (t.field (i + n)).width

-- "the set's declared bits": those of one element of set k
abbrev pub group_bits_lem : Table → ℕ → ℕ
group_bits_lem t k = declared_bits_lem t (t.set k).start (t.set k).size

-- where the set before set k ends: 0 for the first
abbrev pub end_before_lem : Table → ℕ → ℕ
end_before_lem t zero = 0
end_before_lem t (suc k) = (t.set k).start + (t.set k).size

-- g: "Sets ascend, do not overlap, lie in the table, hold a field with a width; size at least 1, maximum 1 to 255"
abbrev pub set_fits_lem : Table → ℕ → Bool
set_fits_lem t k =
    leb (end_before_lem t k) (t.set k).start
    && (leb ((t.set k).start + (t.set k).size) t.count
    && (leb 1 (declared_bits_lem t (t.set k).start (t.set k).size)
    && (leb 1 (t.set k).size && within 1 255 (t.set k).maximum)))

-- Number or Lookup
abbrev pub counts : FieldKind → Bool
counts kind.Number = true
counts kind.Lookup = true
counts kind.IndirectLookup = false
counts kind.Pgn = false
counts kind.IsoName = false
counts kind.Date = false
counts kind.Mmsi = false
counts kind.Duration = false
counts kind.Time = false
counts kind.BitLookup = false
counts kind.Float = false
counts kind.Reserved = false
counts kind.Spare = false
counts kind.StringFix = false
counts kind.StringLz = false
counts kind.StringLau = false
counts kind.Binary = false
counts kind.Decimal = false
counts kind.Unimplemented = false

-- "is Number or Lookup, unsigned, unscaled, 1 to 32 bits wide"
abbrev pub counter_field_fits_lem : FieldDescriptor → Bool
counter_field_fits_lem f = counts f.kind && (not f.signed && (not (scaled f.resolution) && within 1 32 f.width))

-- h: "Each set has a counter that precedes it, is in no set, is [such a field]"
abbrev pub counter_fits_lem : Table → ℕ → Bool
counter_fits_lem t k =
    ltb (t.set k).counter (t.set k).start
    && (not (in_sets_lem t (t.set k).counter t.sets) && counter_field_fits_lem (t.field (t.set k).counter))
