pub mod Text
pub mod Bodies
pub mod Counts
pub mod Lines
pub mod Clients
