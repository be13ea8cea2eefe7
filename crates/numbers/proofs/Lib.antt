pub mod Filled
pub mod Crossing
