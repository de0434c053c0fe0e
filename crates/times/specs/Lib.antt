-- Predicted reply times.
pub mod Times
