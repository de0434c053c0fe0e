-- Laws that several functions' proofs share, and worked values.
pub mod Scans
pub mod Examples
pub mod ReadLaws
pub mod WholeLaws
