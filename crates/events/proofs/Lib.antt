pub mod Listed
pub mod Crossing
