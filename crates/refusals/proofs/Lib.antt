-- How a chain of checks, in code, decides a chain of cases and an outcome, what a test of the peers keeps, and worked values.
pub mod Checks
pub mod Outcomes
pub mod Peers
pub mod Examples
pub mod Entered
