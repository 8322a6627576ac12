pub mod Table
pub mod Totals
pub mod Filtered
pub mod Through
