-- What the C interface adds to the entries: the tables that it lends by replica.
pub mod Interface
pub mod Tests
