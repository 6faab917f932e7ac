-- how numbers, gaps, texts and bytes are read once the bit calls have said what room there is
pub mod Spelled
-- a field that can be read lies in the payload
pub mod Inside
-- lists filled up with one value, and a list stored at the front of another
pub mod Filled
-- by an accepted table a number or a gap is refused exactly where it ends beyond the payload
pub mod Cut
-- by an accepted table a field that is a number on the wire holds one, of 1 to 64 bits
pub mod Numeric
-- what holds of the answers of the bit calls holds of a field's refusal
pub mod Against
-- by an accepted table a bit call says 2 or 3 against a field, never 1 or 6
pub mod Given
-- refusal 2 of a field that starts in the payload asks for more than is left
pub mod Asked
-- every contract leaves one answer and one content of each lent buffer
pub mod OneAnswer
