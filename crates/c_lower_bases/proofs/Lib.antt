pub mod BaseLemmas
mod ObjectLemmas
mod StartLemmas
