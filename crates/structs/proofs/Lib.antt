-- the structs of a list of readings are what is made of each
pub mod Listed
-- a struct's bytes, low byte first, are those of its record
pub mod Same
-- a run of structs as the turns of `lent_readings` take it
pub mod Stored
-- every contract leaves one answer and one content of each lent buffer
pub mod OneAnswer
