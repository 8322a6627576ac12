pub mod Refusals
pub mod Books
pub mod Memory
pub mod InOrder
pub mod Words
