-- That the code computes what the definitions say, and worked values.
pub mod Entries
pub mod Examples
pub mod CoverageLaws
pub mod WalkLaws
pub mod Walks
pub mod Orders
pub mod RefusalLaws
