pub mod Words
pub mod Payloads
