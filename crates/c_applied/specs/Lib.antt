pub mod Calls
pub mod Leads
pub mod Pieces
