mod Playing
mod Writing
pub mod Law
