pub mod Lowest
pub mod Shapes
pub mod Soundness
