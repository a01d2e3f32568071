pub mod Names
pub mod Paths
pub mod Calls
pub mod Opened
