-- The reliability profile: its check, and the unreliability of a peer.
pub mod Profile
pub mod Unreliability
