pub mod Asked
pub mod Blocks
pub mod Laws
pub mod Parts
