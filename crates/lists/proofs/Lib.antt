-- What loops over lists keep.
pub mod Loops
pub mod SortLoops
pub mod BelowLoops
pub mod Lent
