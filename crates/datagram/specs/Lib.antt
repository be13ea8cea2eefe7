pub mod Layout
pub mod Program
pub mod Promises
pub mod Theorems
