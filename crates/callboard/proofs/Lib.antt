-- Why the code returns what the definitions give.
pub mod Numbers
pub mod Flat
pub mod Rows
pub mod InterfaceLaws
