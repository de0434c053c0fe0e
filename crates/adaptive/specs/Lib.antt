-- The balanced policy.
pub mod Floor
pub mod Policy
