pub mod Printed
pub mod Scripts
