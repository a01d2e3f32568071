pub mod Stored
pub mod Steps
pub mod InStep
pub mod Queues
pub mod Passed
