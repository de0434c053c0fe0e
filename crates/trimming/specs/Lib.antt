-- The order of trimming, and trimming step by step, with its result.
pub mod Order
pub mod Trimming
