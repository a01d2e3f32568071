pub mod Picked
pub mod Windows
