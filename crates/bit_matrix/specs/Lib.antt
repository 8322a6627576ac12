pub mod Matrix
pub mod Theorems
