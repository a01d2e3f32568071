pub mod Opened
pub mod Steps
pub mod Comings
pub mod Clients
