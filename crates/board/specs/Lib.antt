pub mod Boards
pub mod Runs
pub mod Recording
pub mod Parting
pub mod Leaving
