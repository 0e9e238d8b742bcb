pub mod Contents
pub mod Plans
pub mod Answers
pub mod Turns
