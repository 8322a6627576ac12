pub mod Played
pub mod Stepping
pub mod Lawful
pub mod Lent
