-- what a refusal of an encode carries, of at most three values
mod Carried
-- what stands before a mark and after it, and signs
mod Marks
-- numbers with a sign, and decimal numbers
mod Digits
-- the values of a line, by their letters
mod Letters
-- a word put byte by byte
mod Words
-- records and texts, value after value
mod Listing
-- the fields of a line
mod Fields
-- the orders of a line
mod Ordering
-- how long an answer is
mod Sizes
-- any list of calls: all that is printed, and that no answer waits for room forever
mod Stream
-- no line has more text than there is room for
mod Room
