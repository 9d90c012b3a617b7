pub mod Frame
pub mod Ask
pub mod OpsCode
pub mod Laws
pub mod Perform
