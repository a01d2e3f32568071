pub mod Words
pub mod Grammar
pub mod Scripts
pub mod Spelling
