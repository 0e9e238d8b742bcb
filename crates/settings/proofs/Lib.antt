pub mod Rates
pub mod Products
pub mod Tries
pub mod Settings
pub mod Cases
