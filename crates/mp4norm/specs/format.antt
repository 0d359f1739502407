pub mod Judging
pub mod Lists
pub mod Runs
