pub mod Rate
pub mod Tries
pub mod Tested
pub mod Setting
pub mod Share
pub mod Cases
