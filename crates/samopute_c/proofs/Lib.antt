-- the cells of a decode tell the length of the working payload and the unit of refusal 2
pub mod Cells
-- an answer that is laid out is laid out under another name of it
pub mod Laid
-- read-back at the boundary: `samopute_encode`, then `samopute_decode`
pub mod CallsBack
-- every contract leaves one answer and one content of each lent buffer
pub mod OneAnswer
