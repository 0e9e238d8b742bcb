pub mod Word
pub mod Block
pub mod File
