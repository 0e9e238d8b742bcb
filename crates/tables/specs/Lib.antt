pub mod Answer
pub mod First
pub mod Tabulate
pub mod Grid
pub mod Sum
pub mod Least
pub mod Halving
