pub mod Refusals
pub mod Convert
pub mod Rows
