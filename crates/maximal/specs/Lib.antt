-- The maximal members of a family of sets, families as tables, and what they mean.
pub mod Maximal
pub mod Tables
