-- What an input that is not refused gives, and worked values.
pub mod Sound
pub mod Examples
pub mod ChanceLaws
pub mod RefusalLaws
