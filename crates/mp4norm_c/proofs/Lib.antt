pub mod Answered
pub mod Comparing
pub mod Found
pub mod Windows
