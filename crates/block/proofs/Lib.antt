pub mod Calls
pub mod EachKind
pub mod Chosen
pub mod Bounds
