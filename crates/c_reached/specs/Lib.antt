pub mod Bodies
pub mod Reaching
