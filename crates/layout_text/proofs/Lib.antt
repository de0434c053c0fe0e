-- Why the code computes what the definitions state, and worked values.
pub mod Rows
pub mod Examples
pub mod LayoutLaws
