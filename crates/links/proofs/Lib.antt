pub mod Reasons
pub mod InOrder
pub mod FindMap
pub mod Spares
pub mod Memory
