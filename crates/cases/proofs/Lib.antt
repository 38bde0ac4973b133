pub mod Computed
pub mod Broken
