-- How the code computes what the definitions say, and worked values.
pub mod Entries
pub mod Examples
pub mod PolicyLaws
pub mod RefusalLaws
