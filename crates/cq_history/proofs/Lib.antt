pub mod Lists
pub mod Numbers
pub mod Steps
pub mod Publishing
pub mod Passing
pub mod Whole
pub mod Beginning
