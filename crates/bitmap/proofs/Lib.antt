-- Masks as machine words, and worked values.
pub mod Words
pub mod MaskLoops
pub mod Examples
