pub mod GeometryLaws
pub mod Equality
pub mod Rounds
pub mod WearLaws
pub mod Keeps
pub mod Wearings
pub mod Turns
