-- How the code computes what the definitions say, and worked values.
pub mod Steps
pub mod Examples
pub mod QuorumLaws
pub mod RingLaws
pub mod StepLaws
