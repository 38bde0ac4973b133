pub mod Copying
pub mod Overlays
