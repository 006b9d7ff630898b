-- modules that belong to no one function
pub mod Layouts
pub mod Hits
pub mod Styles
pub mod SourceRuns
