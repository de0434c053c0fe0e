-- What a line of the stored answers encodes.
pub mod Stored
