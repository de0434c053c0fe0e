-- How the code computes what the definitions say, and worked values.
pub mod Orders
pub mod Passes
pub mod Examples
pub mod OrderLaws
pub mod TrimmingLaws
