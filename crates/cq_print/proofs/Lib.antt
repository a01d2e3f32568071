pub mod Found
pub mod Places
pub mod Shown
pub mod Noted
pub mod Rising
pub mod Opened
pub mod Own
