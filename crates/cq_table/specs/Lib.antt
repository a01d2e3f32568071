pub mod Records
pub mod Located
