pub mod Justified
pub mod Own
pub mod Scans
pub mod Numbers
pub mod Written
