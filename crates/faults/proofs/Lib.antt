-- Marks in a table of bits, the cut-off of the search for probable sets, the finished table, the answers, and worked values.
pub mod Marks
pub mod Prune
pub mod Tables
pub mod Answers
pub mod Entry
pub mod Examples
pub mod FamilyLaws
pub mod FaultListLaws
pub mod RefusalLaws
