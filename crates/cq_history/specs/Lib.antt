pub mod History
pub mod Accounts
pub mod Kept
pub mod Steps
