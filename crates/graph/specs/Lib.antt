pub mod Graph
pub mod Matching
pub mod Theorems
pub mod Pairs
pub mod Short
pub mod Approximation
pub mod Isolated
pub mod Changes
