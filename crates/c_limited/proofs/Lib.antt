pub mod Sums
pub mod Good
pub mod Moved
pub mod Bodies
pub mod Objects
pub mod Whole
pub mod Narrow
