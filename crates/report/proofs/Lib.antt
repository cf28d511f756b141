-- What the proofs of the functions cite.
pub mod Paragraphs
pub mod Found
pub mod Scanned
pub mod Moved
pub mod Answered
pub mod Reported
pub mod Whole
pub mod Counts
pub mod Line
pub mod PieceValues
