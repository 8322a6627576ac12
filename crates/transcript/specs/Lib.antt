pub mod Transcript
pub mod Texts
pub mod Worked
pub mod Words
