pub mod Cells
pub mod Fresh
pub mod Full
pub mod Writes
pub mod Memory
