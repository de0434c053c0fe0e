-- The tally of accept replies, and what it says of whole lists of them.
pub mod Tally
pub mod Replies
