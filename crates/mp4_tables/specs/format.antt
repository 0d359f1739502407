pub mod Repeated
pub mod Groups
pub mod Tables
pub mod PlainSamples
pub mod TableRules
pub mod TableRows
pub mod FirstFault
pub mod FirstFaultLaws
