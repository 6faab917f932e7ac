-- the words of a line, as they are stored, and its answer
mod Words
-- no table in words is too long for the line's buffer
mod Short
-- any list of calls: all that is printed, and that no answer waits for room forever
mod Stream
