-- byte by byte, what is kept of a line
pub mod Taking
-- what is printed by what is kept of the lines is document 01's text for them
pub mod Paper
-- a page has room for the answer to any line
pub mod Sizes
-- over any list of calls the text that was put is that of the input that was taken; and every call moves
pub mod Stream
-- every contract leaves one answer and one content of each lent buffer
mod OneAnswer
