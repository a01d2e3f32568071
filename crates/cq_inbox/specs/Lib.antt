pub mod Requests
pub mod Inbox
pub mod Config
pub mod Flags
