pub mod Means
pub mod Promises
pub mod Slips
pub mod Steps
