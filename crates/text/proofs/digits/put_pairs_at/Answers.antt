use Rattle.std.proofs.Common.{◌≡◌, ap, sym, ◌∙◌, [], ◌∷◌, ℕ, ◌/◌, get_or, rules}
use Rattle.hexadecimal.specs.Digits.{digit_of_lem}
use Rattle.text.proofs.Sheets.{nothing, same, then}
use Rattle.text.proofs.Spelling.{digits_step, digits-none}
use Rattle.text.proofs.digits.put_pairs_at.Goals as goal

pub loop-b-init : goal.loop-b-init
loop-b-init c = same (sym digits-none) (nothing c.args.page.now c.args.at)

pub loop-b-preserved : goal.loop-b-preserved
loop-b-preserved c =
    let x = get_or c.args.s.now c.loop-b.b-index 0 in
    let is : c.from-x.result ≡ x = c.from-x.ensures in
    let high : c.digit_of.result ≡ digit_of_lem (x / 16) = c.digit_of.ensures ∙ ap (λ (y : ℕ). digit_of_lem (y / 16)) is in
    let low : c.digit_of-in-loop-b.result ≡ digit_of_lem x = c.digit_of-in-loop-b.ensures ∙ ap digit_of_lem is in
    let one = same (ap (λ (y : ℕ). y ∷ []) high) c.put_at-half.ensures in
    let two = same (ap (λ (y : ℕ). y ∷ []) low) c.put_at-to.ensures in
    same (digits_step c.args.s.now c.loop-b.b-index (search rules)) (then c.loop-b.invariant (then one two))
