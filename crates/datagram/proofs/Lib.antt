pub mod Sending
pub mod Reading
pub mod Parts
pub mod Turns
pub mod Runs
