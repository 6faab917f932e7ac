-- text after text on a page: what then stands there, what is kept, whether it found room
pub mod Sheets
-- the same of a lent page
pub mod Putting
-- digits made from the last to the first, and numbers of few digits
mod Spelling
-- how long the texts of numbers are
pub mod Sizes
-- what a refusal carries, value after value
pub mod Carrying
-- every contract leaves one page
mod OneAnswer
