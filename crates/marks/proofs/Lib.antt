-- A range that is filtered, the bits of a table, and worked values.
pub mod Ranges
pub mod Sizes
pub mod Examples
