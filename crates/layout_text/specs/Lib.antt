-- The layout text: what it is read to, what refuses it, and what follows.
pub mod LayoutText
