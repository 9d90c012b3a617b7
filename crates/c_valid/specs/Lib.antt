pub mod Valid
pub mod Limited
pub mod Laws
