pub mod Calls
pub mod Headers
pub mod Player
pub mod Theorems
