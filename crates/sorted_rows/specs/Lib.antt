pub mod Row
pub mod RowMemory
pub mod Rows
pub mod Theorems
