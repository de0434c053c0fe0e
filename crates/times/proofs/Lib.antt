-- What the loop keeps, names for worked values, and such values.
pub mod Tables
pub mod Worked
pub mod Examples
pub mod TermLaws
pub mod TimeLaws
