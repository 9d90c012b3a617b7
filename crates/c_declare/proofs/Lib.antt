pub mod Same
pub mod Views
