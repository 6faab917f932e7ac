-- Text after text on a lent page. Assumes nothing.
use Rattle.std.proofs.Common.{◌≡◌, refl, sym, ap, subst, ◌∙◌, ℕ, List, [], ◌++◌}
use denote.Ref.{at_last}
use Rattle.text.specs.declared.pages.Page.{Page}
use Rattle.text.specs.Sheet.{Sheet, sheet, page_of, place_of, put_all, showing, Puts, PutsOn}
use Rattle.text.proofs.Sheets.{put-append, put-none}

again : (s : Sheet) → sheet (page_of s) (place_of s) ≡ s
again (sheet page place) = refl

-- what is shown after a text and then another
both : (old : Page) (s : Sheet) (b : List ℕ) → showing (showing old s) (put_all (sheet (page_of s) (place_of s)) b) ≡ showing old (put_all s b)
both old s b = ap (λ (x : Sheet). showing old (put_all x b)) (again s)

-- a text was put, and then another
pub then : {old mid new : Page} {a b : List ℕ} → PutsOn old a mid → PutsOn mid b new → PutsOn old (a ++ b) new
then {old} {mid} {new} {a} {b} p q =
    let one = ap (λ (x : Page). showing x (put_all (sheet x.bytes.now x.at) b)) p.is in
    record { is = q.is ∙ one ∙ both old (put_all (sheet old.bytes.now old.at) a) b ∙ ap (showing old) (sym (put-append (sheet old.bytes.now old.at) a b)) }

pub nothing : (page : Page) → PutsOn page [] page
nothing page = record { is = ap (showing page) (sym (put-none (sheet page.bytes.now page.at))) }

-- another name for the text
pub same : {old new : Page} {a b : List ℕ} → a ≡ b → PutsOn old a new → PutsOn old b new
same {old} e p = record { is = p.is ∙ ap (λ (x : List ℕ). showing old (put_all (sheet old.bytes.now old.at) x)) e }

-- what is put on the bytes of a lent page, from its place on, is put on the page
pub on-page : (page : Page) {text new : List ℕ} {to : ℕ} → Puts page.bytes.now page.at text new to → PutsOn page text (record { bytes = at_last page.bytes new; at = to })
on-page page p = record { is = ap (showing page) p.is }

-- what a page is once a text is put on it, as its bytes and its place
pub on-sheet : {old new : Page} {text : List ℕ} → PutsOn old text new → Puts old.bytes.now old.at text new.bytes.now new.at
on-sheet {old} {new} {text} p = record { is = ap (λ (x : Page). sheet x.bytes.now x.at) p.is ∙ again (put_all (sheet old.bytes.now old.at) text) }

-- the same of a page that was made of some bytes, at a place
pub put-from : {page new : Page} {text old : List ℕ} {at : ℕ} → page.bytes.now ≡ old → page.at ≡ at → PutsOn page text new → Puts old at text new.bytes.now new.at
put-from {page} {new} {text} {old} {at} e f p = subst (λ (n : ℕ). Puts old n text new.bytes.now new.at) f (subst (λ (x : List ℕ). Puts x page.at text new.bytes.now new.at) e (on-sheet p))
