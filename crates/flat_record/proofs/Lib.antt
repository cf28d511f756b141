pub mod OneKind
pub mod Flat
pub mod Put
pub mod Fields
pub mod Back
