-- That the code computes what the definitions say, and worked values.
pub mod Loads
pub mod Entries
pub mod Examples
pub mod LayoutLaws
pub mod RefusalLaws
