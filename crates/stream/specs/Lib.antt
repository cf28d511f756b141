-- The definitions, in the order in which they rest on each other; the distance comes last, and nothing rests on it.
pub mod Machine
pub mod Answer
pub mod Window
pub mod Heard
pub mod Strings
pub mod Listener
pub mod Search
pub mod Listens
pub mod Distance
