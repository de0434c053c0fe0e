-- Layouts of loads, and what they mean.
pub mod Layout
pub mod Rule
