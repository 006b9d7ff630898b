-- modules that belong to no one function
pub mod Clear
pub mod Pastes
pub mod Ranges
pub mod Inserts
pub mod Reading
pub mod Spaces
pub mod Pointed
pub mod MetresLaws
pub mod Blanks
pub mod Parts
pub mod Edits
pub mod Laws
pub mod MarkedChanges
pub mod Examples
