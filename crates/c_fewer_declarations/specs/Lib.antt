pub mod Standing
pub mod Trees
