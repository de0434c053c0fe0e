-- Plans, and the full-copy fallback.
pub mod Plans
pub mod Planned
