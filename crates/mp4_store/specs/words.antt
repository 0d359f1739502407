pub mod Device
pub mod Places
pub mod LaidWords
pub mod Parts
pub mod Windows
