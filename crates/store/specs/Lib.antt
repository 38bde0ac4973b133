pub mod Bytes
pub mod Lengths
pub mod Means
pub mod Stores
