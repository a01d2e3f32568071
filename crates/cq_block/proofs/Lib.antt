pub mod Fields
pub mod Planned
pub mod Runs
