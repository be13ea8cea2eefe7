pub mod Uniform
pub mod Keeps
pub mod Exact
pub mod Draws
