-- The numbers that refuse, which of them an input gets, and the ranges that they speak of.
pub mod Numbers
pub mod Outcome
pub mod Refused
pub mod OutcomeLaws
pub mod First
pub mod FirstLaws
pub mod Limits
pub mod LimitLaws
