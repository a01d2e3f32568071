pub mod InMemory
pub mod Broker
pub mod Publishing
