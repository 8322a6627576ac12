pub mod Claims
pub mod Verdicts
pub mod Steps
pub mod Soundness
pub mod Example
pub mod Words
