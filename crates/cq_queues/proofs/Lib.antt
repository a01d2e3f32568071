pub mod Elsewhere
pub mod Places
pub mod Marking
pub mod Loops
