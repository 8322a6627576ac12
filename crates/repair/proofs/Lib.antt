pub mod Bests
pub mod Others
pub mod Starts
pub mod Taking
pub mod Displacing
pub mod Rounds
mod Heavy
