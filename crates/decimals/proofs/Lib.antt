-- Laws that the proofs of the functions share, and worked values.
pub mod Floats
pub mod Steps
pub mod Examples
pub mod DecimalLaws
pub mod DigitLaws
