pub mod Ahead
pub mod Flowing
pub mod Loops
pub mod Blocks
pub mod Parts
pub mod Forms
pub mod Heads
pub mod Switches
pub mod Statements
pub mod Firsts
pub mod Texts
pub mod Costs
mod Values
pub mod WorthStatements
mod Pieces
pub mod CostsValues
pub mod Flows
pub mod CostsTexts
