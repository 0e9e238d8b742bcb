pub mod Steps
pub mod Ends
pub mod Quick
pub mod Settings
