pub mod History
pub mod Lists
pub mod Legal
pub mod Lawful
pub mod Asks
pub mod Recorded
pub mod Confirms
