pub mod Spelled
pub mod Examples
