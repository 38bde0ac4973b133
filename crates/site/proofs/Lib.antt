pub mod Makings
pub mod Promised
pub mod Running
pub mod Stepping
pub mod Sweeping
