pub mod Corridors
pub mod Demands
pub mod Records
pub mod Rows
