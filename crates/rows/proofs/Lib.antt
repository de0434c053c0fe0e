-- What a row's four words say, and what loops over tables keep.
pub mod Facts
pub mod TableLoops
pub mod FirstRows
pub mod LowLaws
pub mod PlaceLaws
pub mod TableLaws
pub mod WordLaws
