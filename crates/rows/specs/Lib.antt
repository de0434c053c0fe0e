-- Rows of shards as words, and lent tables of them.
pub mod Row
