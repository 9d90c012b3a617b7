pub mod Whole
mod Parameters
pub mod Bodies
pub mod Opening
pub mod Entered
pub mod Calls
pub mod Helping
pub mod Uses
mod Pieces
pub mod Printers
pub mod PrintedUses
mod Turns
pub mod Spellers
pub mod Faithful
pub mod Staying
pub mod Breaking
