-- the turns of a decode into a lent run come to a decode; no memory in it
pub mod Turns
-- so do those of a caller that goes by turns, with the first one, which prepares
pub mod Stepwise
-- every contract leaves one answer and one content of each lent buffer
pub mod OneAnswer
-- demands 2 and 3 for `decode`, one number changed between two calls, and how much room is enough
pub mod Demands
