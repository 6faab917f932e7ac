-- a run of bits as a number: which bits matter, how two runs join, how large it is
pub mod Sums
-- one turn of a read takes the bits of one byte
pub mod Turns
-- when a call is not refused, and what that says of its width, its alignment and its end
pub mod Rooms
-- a written buffer: its length, the bits that were put, those that stay
pub mod Written
-- one turn of a write patches one byte, in bits and as the code has it
pub mod Patches
-- a run of bits taken out of a word of 8 bytes
pub mod Words
-- a word of 8 bytes that is written: byte by byte, and as a run within it
pub mod WordPuts
-- a part of a list that may run past its end
pub mod Lists
-- a number that was read is below 2 ^ n, and so fits its type
pub mod Answers
-- what callers cite of reads and writes
pub mod Laws
-- what callers cite of slices: never cut, read back as written, all else stays
pub mod Slices
-- every contract leaves one answer and one content of each lent buffer
pub mod OneAnswer
