pub mod Quotients
pub mod Rules
pub mod Runs
pub mod Same
pub mod Roads
pub mod Zeros
pub mod Sizes
pub mod Conservation
