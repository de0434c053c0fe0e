-- What loops over lists compute, for elements of any type, and what that means.
pub mod All
pub mod AllLaws
pub mod Below
pub mod BelowLaws
pub mod ListedLaws
pub mod Sort
pub mod SortLaws
pub mod KeyLaws
pub mod First
pub mod FirstLaws
