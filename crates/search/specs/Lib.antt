pub mod Search
pub mod Places
