-- raws of n bits, signed and not: their top bit, and which types hold them
pub mod Widths
-- which fields hold a number, and that only they give a raw
pub mod Numeric
-- the limits of a width, and what a cut value within them, or beyond, answers
pub mod Limits
-- a raw means the number that it was written for, at every width and for both signs
pub mod Meaning
-- signed numbers as the machine reads them back from their bits
pub mod Machine
-- a float of 2^64 or more is 2^64, or at least 4,096 beyond it
pub mod Beyond
-- every contract leaves one answer and one content of each lent buffer
pub mod OneAnswer
-- the value of a raw is a number, no text
pub mod Scaled
-- the raw that a value is written as is below 2 ^ width
pub mod Fitting
-- a Float says nothing exactly where it is the NaN
pub mod Silent
-- the words of a number that is neither signed nor scaled, by its width alone
pub mod Simple
