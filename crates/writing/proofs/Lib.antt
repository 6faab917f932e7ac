-- bytes put one after another: a text with its length, its encoding byte, its fill
pub mod Pours
-- what was weighed has room in the buffer and lies in the lent text
pub mod Puts
-- 7 by its test
pub mod Readied
-- what is written at a field, by its shape and the offer, lies in the buffer
pub mod Contents
-- each case of one turn comes to what `stroked_of` and `left_of` say
pub mod Turning
-- what it means that a payload holds a field that was written: definitions
pub mod Holding
-- fields put one after another: each has its bits, and what stood before stays
pub mod Painted
-- turn by turn, a walk comes to what encoding is, and the buffer to its image
pub mod Loops
-- the values of records stand at the places below their count, and at no other
pub mod Listing
-- the bytes used of an encode, filled up by the table, hold each field that was written
pub mod Imaged
-- what no field puts stays ones, of an encode that ended or was refused
pub mod Ones
-- what was weighed, by the shape of its field: a number with room, a gap, or bytes of the lent text
pub mod Meant
-- bytes that stand in a payload are read back
pub mod BytesBack
-- a field takes the bits that it was written in
pub mod FieldTaken
-- one field that was weighed and is held by a payload is read back
pub mod FieldBack
-- reading finds as many elements of a set as were written
pub mod GroupBack
-- reading walks as writing did, and ends where it ended
pub mod WalkBack
-- the raw of a value in a field of an accepted table fits the field
pub mod Fitted
-- read-back: what encode accepts and writes, decode reads
pub mod ReadsBack
-- read-back for the calls: `encode`, then `for_each_field`
pub mod CallsBack
-- an encode gives no refusal but 2, 3, 5, 7, 8 and 10 to 13
pub mod Given
-- every contract leaves one answer and one content of each lent buffer
pub mod OneAnswer
