pub mod Octets
pub mod Program
