pub mod Echo
pub mod Undone
