-- The family of crash sets, and the fault list.
pub mod Family
pub mod Marks
pub mod FaultList
