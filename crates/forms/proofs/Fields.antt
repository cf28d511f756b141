-- The laws of each field: what is decoded is encoded again, what is encoded is decoded to what is carried, and ranges.
pub mod Sign
pub mod Flag
pub mod Time
pub mod Date
pub mod Fraction
pub mod Channel
pub mod Offset
pub mod Position
pub mod PositionRanges
