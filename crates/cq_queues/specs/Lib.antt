pub mod Marks
pub mod Values
pub mod Changes
pub mod Queues
