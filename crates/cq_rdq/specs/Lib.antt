pub mod Calls
pub mod Errors
pub mod Forms
pub mod Gates
pub mod Opened
pub mod Places
pub mod Rdq
pub mod Records
