pub mod Firsts
pub mod Joined
pub mod Checks
