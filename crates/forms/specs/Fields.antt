-- The fields of a record, a file for each: what a form may carry of it, how its slots are decoded and encoded, what a writer asks,
-- what is carried, its line in the block, its word in the table, and the tests that are its own.
pub mod Sign
pub mod Time
pub mod Date
pub mod Fraction
pub mod Channel
pub mod Flag
pub mod Offset
pub mod Position
