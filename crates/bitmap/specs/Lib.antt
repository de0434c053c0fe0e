-- Sets of small numbers as masks: what they are, their laws, and what a count means.
pub mod Mask
pub mod MaskLaws
pub mod CountLaws
pub mod Members
pub mod RunLaws
pub mod WidthLaws
pub mod RunCounts
