-- which calls 7 and 8 let through, what the padding run then holds, and which payload is read
pub mod Working
-- the counters that a field sets, one set more
pub mod Counted
-- a field that was read: its bits, raw and value are those that the definitions give it
pub mod Told
-- an answer has an end or a refusal, and no other one
pub mod Ending
-- each case of one turn comes to what `next_of` says
pub mod Turned
-- turn by turn, a walk comes to what decoding is, and hands out its readings
pub mod Looped
-- a reading that is handed out has room, and there are no more than there is room for
pub mod Seated
-- spans in a chain cover each bit once, and their end is the sum of their bits
pub mod Spans
-- the bits that a field takes at the least; and no field by itself gives 9
pub mod Least
-- a field is read from the bits of its own span, a StringLz from one byte more
pub mod Local
-- the fields that a walk met: spans in a chain, bits by the rules, readings counted
pub mod Passed
-- a StringLz is met last, and no field but the last takes no bits
pub mod Lasts
-- as many readings as fields that are not skipped, and at most one more than the payload has bits; room for so many is always enough
pub mod Roomy
-- one number changed, no counter: the same walk, and every other reading the same
pub mod Changed
-- the working payload of received bytes in which one span was written
pub mod Received
-- demand 3 holds for every accepted table and every payload that decodes with room
pub mod Demand3
-- demand 3 for the calls `for_each_field` and `next_field`; 1,785 readings are room enough
pub mod Answered
-- what holds of the refusals of fields holds of that of a decode, but for those given before its walk
pub mod Stopped
-- a decode gives no refusal but 2, 3, 4, 5, 7, 8 and 9
pub mod Given
-- in refusal 2 of a decode asked is above available
pub mod Asked
-- every contract leaves one answer and one content of each lent buffer
pub mod OneAnswer
