pub mod Quiet
pub mod Waits
pub mod Finding
pub mod Beginning
pub mod Publishing
