pub mod Lists
pub mod Theorems
