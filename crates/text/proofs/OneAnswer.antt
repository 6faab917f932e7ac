-- Two pages allowed after a call are equal, bytes and place: of the contract of each public call as the source states it, `Post`. Assumes nothing.
use Rattle.one_answer.proofs.Fixes.{Fixes, fixed}
use Rattle.text.proofs.pages.Page.new.Reads as new
use Rattle.text.proofs.pages.Page.put.Reads as put
use Rattle.text.proofs.pages.Page.put_text.Reads as put-text
use Rattle.text.proofs.pages.Page.put_decimal.Reads as put-decimal
use Rattle.text.proofs.pages.Page.put_hex.Reads as put-hex
use Rattle.text.proofs.pages.Page.put_fixed_decimal.Reads as put-fixed-decimal
use Rattle.text.proofs.pages.Page.put_fixed_hex.Reads as put-fixed-hex
use Rattle.text.proofs.pages.Page.put_pairs.Reads as put-pairs
use Rattle.text.proofs.pages.Page.put_bytes.Reads as put-bytes
use Rattle.text.proofs.pages.Page.put_number.Reads as put-number
use Rattle.text.proofs.pages.Page.put_value.Reads as put-value
use Rattle.text.proofs.pages.Page.put_refused.Reads as Put-refused
use Rattle.text.proofs.pages.Page.put_malformed.Reads as put-malformed

one-new : Fixes new.Post (λ κs x s. x.bytes)
one-new = fixed (λ κs a x s p. p.0)

one-new-place : Fixes new.Post (λ κs x s. x.at)
one-new-place = fixed (λ κs a x s p. p.1)

one-put : Fixes put.Post (λ κs x s. s.0.now)
one-put = fixed (λ κs a x s p. p.is)

one-put-text : Fixes put-text.Post (λ κs x s. s.0.now)
one-put-text = fixed (λ κs a x s p. p.is)

one-put-decimal : Fixes put-decimal.Post (λ κs x s. s.0.now)
one-put-decimal = fixed (λ κs a x s p. p.is)

one-put-hex : Fixes put-hex.Post (λ κs x s. s.0.now)
one-put-hex = fixed (λ κs a x s p. p.is)

one-put-fixed-decimal : Fixes put-fixed-decimal.Post (λ κs x s. s.0.now)
one-put-fixed-decimal = fixed (λ κs a x s p. p.is)

one-put-fixed-hex : Fixes put-fixed-hex.Post (λ κs x s. s.0.now)
one-put-fixed-hex = fixed (λ κs a x s p. p.is)

one-put-pairs : Fixes put-pairs.Post (λ κs x s. s.0.now)
one-put-pairs = fixed (λ κs a x s p. p.is)

one-put-bytes : Fixes put-bytes.Post (λ κs x s. s.0.now)
one-put-bytes = fixed (λ κs a x s p. p.is)

one-put-number : Fixes put-number.Post (λ κs x s. s.0.now)
one-put-number = fixed (λ κs a x s p. p.is)

one-put-value : Fixes put-value.Post (λ κs x s. s.0.now)
one-put-value = fixed (λ κs a x s p. p.is)

one-put-refused : Fixes Put-refused.Post (λ κs x s. s.0.now)
one-put-refused = fixed (λ κs a x s p. p.is)

one-put-malformed : Fixes put-malformed.Post (λ κs x s. s.0.now)
one-put-malformed = fixed (λ κs a x s p. p.is)
