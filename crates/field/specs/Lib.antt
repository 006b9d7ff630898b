pub mod Text
pub mod Metres
pub mod Marks
pub mod Fields
pub mod Examples
pub mod MetresLaws
pub mod MarkedChanges
