pub mod Fragments
pub mod FragmentRows
pub mod FragmentSamples
pub mod FragmentRules
