pub mod Station
pub mod Calls
pub mod Arrival
pub mod Forms
pub mod Links
