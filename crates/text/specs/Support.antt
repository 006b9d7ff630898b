-- How the code hands things on: cited by private functions and those exported for the crate above, by no call of document 01 and no theorem.
pub mod LineParts
