pub mod Folder
pub mod Read
pub mod Found
pub mod Opens
pub mod Cause
