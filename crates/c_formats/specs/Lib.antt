pub mod Laws
pub mod Places
pub mod DigitsLaws
pub mod StringsLaws
pub mod FormatsFailingLaws
pub mod StringsFailingLaws
