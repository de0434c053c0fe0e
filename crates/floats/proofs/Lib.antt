-- How the machine compares floats, why a probability never raises a product, and worked values.
pub mod Compare
pub mod Shrink
pub mod Examples
pub mod Finite
