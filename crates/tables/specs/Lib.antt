pub mod Views
pub mod Steps
pub mod Changes
pub mod Choices
pub mod FreeLoads
