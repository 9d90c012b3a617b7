pub mod Standing
pub mod Laws
pub mod There
pub mod FewerHelpsLaws
