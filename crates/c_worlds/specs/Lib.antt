pub mod Named
pub mod Laws
pub mod ActionsLaws
pub mod Silent
