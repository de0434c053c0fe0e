-- The search for the first time at which a layout commits, and the times that it passes over.
pub mod Search
pub mod Repeats
pub mod Searched
