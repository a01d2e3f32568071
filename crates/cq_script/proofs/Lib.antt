pub mod Sticky
pub mod Decimals
pub mod StepWords
pub mod Limits
pub mod Spelled
