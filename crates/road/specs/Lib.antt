pub mod Corridor
pub mod Step
pub mod Run
pub mod Limits
pub mod Values
