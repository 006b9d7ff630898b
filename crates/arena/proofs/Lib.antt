-- modules that belong to no one function
pub mod Forests
pub mod Checks
pub mod Owners
