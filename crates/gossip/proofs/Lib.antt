-- What the proofs of gossip share, and worked values.
pub mod Steps
pub mod Examples
pub mod GossipLaws
pub mod RefusalLaws
pub mod TurnLaws
pub mod UnionLaws
pub mod WalkLaws
