pub mod Head
pub mod Tree
pub mod Writing
pub mod HeadFaults
pub mod FirstFault
pub mod FirstFaultLaws
