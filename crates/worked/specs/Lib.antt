-- The site sheet's starred lines and counts of coverage's walk, computed by the checker, and the order of the refusals over all entries.
pub mod Sheet
pub mod RowsUnited
pub mod Order
