pub mod Paths
pub mod Holds
pub mod OnLinks
pub mod Best
