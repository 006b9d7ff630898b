pub mod ListLaws
pub mod QueueLaws
pub mod WalkLaws
pub mod RuleLaws
pub mod Stated
pub mod CheckLaws
pub mod LinkedForests
