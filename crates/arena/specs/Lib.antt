pub mod Slots
pub mod Forest
pub mod Spelled
pub mod Fields
pub mod Rules
pub mod Support
