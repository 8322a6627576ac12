pub mod Members
pub mod New
pub mod Steps
pub mod Tracks
pub mod Agreement
pub mod Firsts
pub mod Matched
