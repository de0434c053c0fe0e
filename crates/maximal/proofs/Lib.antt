-- The laws of the passes, and worked values.
pub mod Supersets
pub mod Passes
pub mod Examples
pub mod MaximalLaws
