-- Families of sets as tables of bits.
pub mod Marks
pub mod MarkLaws
