-- The laws, in the order in which they rest on each other; those of the distance come last, and nothing rests on them.
pub mod Machine
pub mod Window
pub mod Heard
pub mod Apart
pub mod Records
pub mod Listener
pub mod Search
pub mod Repeated
pub mod Pieces
pub mod Few
pub mod Listens
pub mod Distance
pub mod Since
