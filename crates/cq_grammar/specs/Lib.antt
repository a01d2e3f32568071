pub mod Words
pub mod Calls
pub mod Steps
pub mod Requests
pub mod Grammar
pub mod Scripts
pub mod Spelling
