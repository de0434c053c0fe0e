-- Decimals: as they are written, which are refused, and the double that one is.
pub mod Decimal
pub mod Parts
