pub mod View
pub mod Lines
