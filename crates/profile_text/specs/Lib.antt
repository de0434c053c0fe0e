-- The text of a reliability profile: what it is read to, and what refuses it.
pub mod ProfileText
