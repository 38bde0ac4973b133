pub mod Cells
pub mod Clients
pub mod Events
pub mod Faults
pub mod Means
pub mod Questions
pub mod Records
pub mod Shape
