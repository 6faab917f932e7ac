-- The contract of each export is that of the library's call of its name: not another one like it, but the same by computation.
-- So what `OneAnswer` of `samopute_c` proves of the library's, that two answers allowed for an input are equal and two contents of
-- what is lent, holds of the export's. Assumes nothing.
use mathlib.Core.Path.{◌≡◌, refl}
use Rattle.samopute_c_c.proofs.samopute_check.Reads as check
use Rattle.samopute_c_c.proofs.samopute_decode.Reads as decode
use Rattle.samopute_c_c.proofs.samopute_decode_pgn.Reads as decode-pgn
use Rattle.samopute_c_c.proofs.samopute_version.Reads as version
use Rattle.samopute_c_c.proofs.samopute_encode.Reads as encode
use Rattle.samopute_c_c.proofs.samopute_encode_pgn.Reads as encode-pgn
use Rattle.samopute_c_c.proofs.samopute_read_u64.Reads as read-u64
use Rattle.samopute_c_c.proofs.samopute_read_u32.Reads as read-u32
use Rattle.samopute_c_c.proofs.samopute_read_u16.Reads as read-u16
use Rattle.samopute_c_c.proofs.samopute_read_u8.Reads as read-u8
use Rattle.samopute_c_c.proofs.samopute_advance.Reads as advance
use Rattle.samopute_c_c.proofs.samopute_read_slice.Reads as read-slice
use Rattle.samopute_c_c.proofs.samopute_write_u64.Reads as write-u64
use Rattle.samopute_c_c.proofs.samopute_write_u32.Reads as write-u32
use Rattle.samopute_c_c.proofs.samopute_write_u16.Reads as write-u16
use Rattle.samopute_c_c.proofs.samopute_write_u8.Reads as write-u8
use Rattle.samopute_c_c.proofs.samopute_write_advance.Reads as write-advance
use Rattle.samopute_c_c.proofs.samopute_write_slice.Reads as write-slice
use Rattle.samopute_c_c.proofs.samopute_scale.Reads as scale
use Rattle.samopute_c_c.proofs.samopute_raw_of.Reads as raw-of
use Rattle.samopute_c_c.proofs.samopute_bits_remaining.Reads as bits-remaining
use Rattle.samopute_c.proofs.samopute_check.Reads as lib-check
use Rattle.samopute_c.proofs.samopute_decode.Reads as lib-decode
use Rattle.samopute_c.proofs.samopute_decode_pgn.Reads as lib-decode-pgn
use Rattle.samopute_c.proofs.samopute_version.Reads as lib-version
use Rattle.samopute_c.proofs.samopute_encode.Reads as lib-encode
use Rattle.samopute_c.proofs.samopute_encode_pgn.Reads as lib-encode-pgn
use Rattle.samopute_c.proofs.samopute_read_u64.Reads as lib-read-u64
use Rattle.samopute_c.proofs.samopute_read_u32.Reads as lib-read-u32
use Rattle.samopute_c.proofs.samopute_read_u16.Reads as lib-read-u16
use Rattle.samopute_c.proofs.samopute_read_u8.Reads as lib-read-u8
use Rattle.samopute_c.proofs.samopute_advance.Reads as lib-advance
use Rattle.samopute_c.proofs.samopute_read_slice.Reads as lib-read-slice
use Rattle.samopute_c.proofs.samopute_write_u64.Reads as lib-write-u64
use Rattle.samopute_c.proofs.samopute_write_u32.Reads as lib-write-u32
use Rattle.samopute_c.proofs.samopute_write_u16.Reads as lib-write-u16
use Rattle.samopute_c.proofs.samopute_write_u8.Reads as lib-write-u8
use Rattle.samopute_c.proofs.samopute_write_advance.Reads as lib-write-advance
use Rattle.samopute_c.proofs.samopute_write_slice.Reads as lib-write-slice
use Rattle.samopute_c.proofs.samopute_scale.Reads as lib-scale
use Rattle.samopute_c.proofs.samopute_raw_of.Reads as lib-raw-of
use Rattle.samopute_c.proofs.samopute_bits_remaining.Reads as lib-bits-remaining

same-check : check.Post ≡ lib-check.Post
same-check = refl

same-decode : decode.Post ≡ lib-decode.Post
same-decode = refl

same-decode-pgn : decode-pgn.Post ≡ lib-decode-pgn.Post
same-decode-pgn = refl

same-version : version.Post ≡ lib-version.Post
same-version = refl

same-encode : encode.Post ≡ lib-encode.Post
same-encode = refl

same-encode-pgn : encode-pgn.Post ≡ lib-encode-pgn.Post
same-encode-pgn = refl

same-read-u64 : read-u64.Post ≡ lib-read-u64.Post
same-read-u64 = refl

same-read-u32 : read-u32.Post ≡ lib-read-u32.Post
same-read-u32 = refl

same-read-u16 : read-u16.Post ≡ lib-read-u16.Post
same-read-u16 = refl

same-read-u8 : read-u8.Post ≡ lib-read-u8.Post
same-read-u8 = refl

same-advance : advance.Post ≡ lib-advance.Post
same-advance = refl

same-read-slice : read-slice.Post ≡ lib-read-slice.Post
same-read-slice = refl

same-write-u64 : write-u64.Post ≡ lib-write-u64.Post
same-write-u64 = refl

same-write-u32 : write-u32.Post ≡ lib-write-u32.Post
same-write-u32 = refl

same-write-u16 : write-u16.Post ≡ lib-write-u16.Post
same-write-u16 = refl

same-write-u8 : write-u8.Post ≡ lib-write-u8.Post
same-write-u8 = refl

same-write-advance : write-advance.Post ≡ lib-write-advance.Post
same-write-advance = refl

same-write-slice : write-slice.Post ≡ lib-write-slice.Post
same-write-slice = refl

same-scale : scale.Post ≡ lib-scale.Post
same-scale = refl

same-raw-of : raw-of.Post ≡ lib-raw-of.Post
same-raw-of = refl

same-bits-remaining : bits-remaining.Post ≡ lib-bits-remaining.Post
same-bits-remaining = refl
