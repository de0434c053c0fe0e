-- How the code computes what the definitions say, and worked values.
pub mod Mechanisms
pub mod Examples
pub mod ProfileTextLaws
pub mod RefusalLaws
