-- The code meets the definitions.
pub mod Records
pub mod Made
pub mod ThroughCLaws
pub mod AnswerLaws
