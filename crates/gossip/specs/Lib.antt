-- Gossip, and what it means.
pub mod Gossip
