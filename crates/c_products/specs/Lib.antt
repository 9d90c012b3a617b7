pub mod Found
pub mod Laws
pub mod MovesFound
pub mod MovesLaws
pub mod BitsLaws
pub mod CompoundsLaws
