pub mod Packing
pub mod Tree
pub mod Holes
