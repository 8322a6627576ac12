pub mod Words
pub mod Lines
pub mod Shown
pub mod Conversion
pub mod Worked
