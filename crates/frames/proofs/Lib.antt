-- a line byte by byte: a bad one stays bad; how many digits, and which are the PGN
mod Counting
-- a line fed in any pieces is what document 01 says of it, and the buffer holds its payload
pub mod Exact
-- what is known of a line so far, with what is to come, is what is known in the end
mod Feeding
-- every contract leaves one answer and one content of each lent buffer
mod OneAnswer
