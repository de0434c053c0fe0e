-- The commit rule and the discard rule, the walk of coverage, and what they mean in shards and replicas.
pub mod Coverage
pub mod Walk
pub mod Ranks
pub mod Walks
