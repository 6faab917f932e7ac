-- codes, as they are read from the words of a line
mod Codes
-- the text of an answer by what was found, and a line by its call
mod Texts
-- how long an answer is
mod Sizes
-- any list of calls: all that is printed, and that no answer waits for room forever
mod Stream
