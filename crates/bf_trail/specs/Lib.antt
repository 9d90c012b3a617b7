pub mod Trail
pub mod Nest
pub mod Sides
pub mod Fetch
pub mod Load
pub mod Store
pub mod Lay
pub mod Access
