-- Text that is put on a page, byte after byte. Document 01 says what is printed "exactly": this says what a lent page then holds.
use denote.Ref.{at_last}
use Rattle.text.specs.declared.pages.Page.{Page}
use Rattle.std.specs.Prelude.{◌≡◌, ℕ, ◌+◌, List, [], ◌∷◌, Bool, true, false, length, set, ltb}

-- the bytes of a page, and the place where the next byte goes
pub data Sheet : Type 0 where
  sheet : List ℕ → ℕ → Sheet

abbrev pub page_of : Sheet → List ℕ
page_of (sheet page place) = page

abbrev pub place_of : Sheet → ℕ
place_of (sheet page place) = place

-- the place of a text that has found no room: past every page
abbrev pub lost : ℕ
lost = 0xffff_ffff_ffff_ffff

abbrev pub put_by : Bool → List ℕ → ℕ → ℕ → Sheet
put_by true page place b = sheet (set page place b) (place + 1)
put_by false page place b = sheet page lost

-- one more byte; past the page it is lost, and so is all that follows
abbrev pub put_one : Sheet → ℕ → Sheet
put_one (sheet page place) b = put_by (ltb place (length page)) page place b

-- a text, from its first byte to its last
unfoldable pub put_all : Sheet → List ℕ → Sheet
put_all s [] = s
put_all s (b ∷ bs) = put_all (put_one s b) bs

-- a text is put on the page `old` from the place `at` on: the page is then `new`, and `to` the place after the text
pub record Puts (old : List ℕ) (at : ℕ) (text new : List ℕ) (to : ℕ) : Type 0 where
  pub is : sheet new to ≡ put_all (sheet old at) text

-- a lent page that shows a sheet: the same lent bytes, with the sheet's in them, and the sheet's place
abbrev pub showing : Page → Sheet → Page
showing p s = record { bytes = at_last p.bytes (page_of s); at = place_of s }

-- a text is put on the page `old`, from its place on: the page is then `new`
pub record PutsOn (old : Page) (text : List ℕ) (new : Page) : Type 0 where
  pub is : new ≡ showing old (put_all (sheet old.bytes.now old.at) text)
