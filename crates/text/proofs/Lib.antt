pub mod Splitting
pub mod Numbers
pub mod Lines
pub mod Texts
