pub mod Request
pub mod Carry
pub mod Printed
pub mod Piece
pub mod Stream
pub mod Summary
