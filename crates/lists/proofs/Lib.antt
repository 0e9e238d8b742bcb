pub mod Corridors
pub mod Rows
pub mod Downstream
pub mod Words
pub mod Fits
pub mod Roads
