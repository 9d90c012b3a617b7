pub mod AsideLemmas
pub mod CaseLemmas
