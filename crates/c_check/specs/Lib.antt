pub mod Bodies
pub mod Items
