-- How the code computes what the definitions say, and worked values.
pub mod Parts
pub mod Examples
pub mod PlanLaws
