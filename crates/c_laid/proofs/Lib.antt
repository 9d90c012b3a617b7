pub mod Placed
mod Values
pub mod Objects
pub mod Slices
pub mod DataObjects
mod Letters
pub mod First
pub mod Functions
mod RoomsObjects
pub mod Sizes
pub mod Data
mod Literals
mod Firsts
pub mod Whole
mod Cells
pub mod FirstMemoriesObjects
mod FirstMemoriesValues
pub mod Fits
