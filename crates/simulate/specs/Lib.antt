pub mod Simulate
pub mod B
