pub mod Setting
pub mod Sheets
pub mod Cases
pub mod Readings
pub mod Turned
