pub mod Built
pub mod Compiled
pub mod Faithful
pub mod Found
pub mod Functions
pub mod Lowered
pub mod Made
pub mod Moments
pub mod Names
pub mod Programs
pub mod Texts
pub mod Uses
pub mod PrintersFailNames
pub mod Whole
pub mod MeaningKeptFound
pub mod Stand
pub mod MeaningKeptNames
pub mod MeaningKeptWhole
mod Worked
pub mod Checked
pub mod Plain
pub mod Printing
pub mod FormattedPrinting
pub mod Helpers
pub mod Formats
pub mod ProgramHelpersNames
pub mod ProgramHelpersFormats
pub mod There
pub mod FormatWeightsNames
pub mod Sums
pub mod ProgramHelpersWhole
pub mod Few
pub mod Trees
pub mod Calls
pub mod Lettering
pub mod Scopes
pub mod Statements
pub mod Tags
pub mod Items
pub mod Serving
pub mod FewFunctions
pub mod RoomWhole
pub mod Letters
pub mod Spelled
pub mod Firsts
pub mod SizesWhole
mod RoomSums
mod RoomFormats
mod Distinct
mod RoomTexts
pub mod DesugaredCostsWhole
pub mod RoomTrees
mod Expressions
pub mod RoomStatements
pub mod HelperCostsSums
pub mod HelperCostsTrees
pub mod HelperCostsExpressions
pub mod HelperCostsStatements
pub mod RoomItems
pub mod Closed
pub mod Words
pub mod HelperCostsWhole
