pub mod Counts
pub mod Words
pub mod Copies
pub mod Answers
pub mod AsLists
