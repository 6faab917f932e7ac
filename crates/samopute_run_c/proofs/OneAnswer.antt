-- The contract of the export is that of the library's call, the same by computation. So what `OneAnswer` of `samopute_run` proves
-- of the library's, that two answers allowed for an input are equal and two contents of what is lent, holds of the export's.
-- Assumes nothing.
use mathlib.Core.Path.{◌≡◌, refl}
use Rattle.samopute_run_c.proofs.samopute_decode_run.Reads as decode-run
use Rattle.samopute_run.proofs.samopute_decode_run.Reads as lib-decode-run

same-decode-run : decode-run.Post ≡ lib-decode-run.Post
same-decode-run = refl
