-- The steps of an adaptive choice.
pub mod Steps
