pub mod Contents
pub mod PassLaws
pub mod PassLengths
pub mod PassSteps
pub mod Passes
pub mod Placing
pub mod Sharing
pub mod Centring
