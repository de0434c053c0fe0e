-- Floats: their total order, finiteness, the larger of two, probabilities.
pub mod Floats
pub mod NumberLaws
pub mod OrderLaws
pub mod FirstLaws
pub mod RangeLaws
