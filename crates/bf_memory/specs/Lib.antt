pub mod Walk
pub mod Row
pub mod MemoryCode
