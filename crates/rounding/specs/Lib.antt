-- What IEEE 754 rounding means.
pub mod Nearest
pub mod GridLaws
pub mod UnitsLaws
pub mod BitLaws
pub mod NearestLaws
pub mod SignLaws
pub mod FiniteLaws
