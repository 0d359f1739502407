pub mod JobRuns
pub mod Judged
pub mod ListNames
