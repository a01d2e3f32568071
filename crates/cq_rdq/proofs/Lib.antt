pub mod Chains
pub mod Files
pub mod Listing
pub mod Opening
pub mod Batches
pub mod Told
