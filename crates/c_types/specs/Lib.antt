-- What crosses the C interface, as the values of the entries, and that a tally that crosses is the entry's.
pub mod CTypes
pub mod Tables
pub mod TallyThroughC
