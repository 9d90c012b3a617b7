pub mod Ordinary
pub mod Laws
pub mod FewerStatementsOrdinary
pub mod FewerStatementsLaws
pub mod Seeing
pub mod FewerBodiesLaws
