-- what is owed, by the byte that comes next
mod Owing
-- one call, by induction on its chunk: all that the next two files say of it
mod Runs
-- one call: what is put and what is still owed are what was owed before; what stands before the place is kept
pub mod Conserved
-- one call: it takes all of its chunk, or a line waits whose answer has no room
pub mod Progress
-- a chunk, call after call: enough calls take all of it, and no line is left to wait
pub mod Drained
-- any list of calls: all the text that is put, and what is still owed, are what is owed for all the input that is taken
pub mod Stream
-- what is held of a line so far, with what is to come, is what is held in the end
mod Feeding
-- a chunk, line by line: up to its first newline, or all of it
pub mod UpTo
-- what `next` answers, by what `feed` answers
mod Taking
-- two programs that answer the same lines alike print alike
pub mod Alike
-- the holder of lines is exact: a line that is too long for the buffer counts as an empty one
pub mod Capped
-- a program that holds its lines keeps its promise
pub mod Programs
-- every contract leaves one answer and one content of each lent buffer
mod OneAnswer
-- a line by itself is answered whole, with its newline or without
pub mod Whole
-- the loop of `pass`
pub mod Chunk
-- the loop of a program over `next` and `answered` comes to one call
pub mod Steps
