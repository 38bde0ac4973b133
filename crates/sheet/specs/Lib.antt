pub mod Answers
pub mod Columns
pub mod Laws
pub mod Output
pub mod Sheet
pub mod Steps
pub mod Text
