-- Texts as lists of bytes, the reading of their parts from the left, and whole numbers.
pub mod Quoted
pub mod Text
pub mod TextLaws
pub mod SplitLaws
pub mod Parts
pub mod Read
pub mod Whole
