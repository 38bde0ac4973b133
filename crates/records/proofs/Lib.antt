mod Told
pub mod Tables
pub mod InPlace
mod Restarts
