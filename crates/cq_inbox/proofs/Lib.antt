pub mod Members
pub mod OpenWords
pub mod Places
pub mod Shown
