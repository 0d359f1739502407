pub mod Actions
pub mod NearBytes
pub mod Outgoing
pub mod Sources
