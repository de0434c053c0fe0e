-- How the code computes what the definitions say.
pub mod Parts
pub mod SearchLaws
