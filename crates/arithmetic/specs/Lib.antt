pub mod Fold
pub mod Growth
pub mod Fair
pub mod Scalar
pub mod Halves
pub mod Tests
pub mod Support
