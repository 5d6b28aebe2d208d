pub mod Columns
pub mod Demand3
pub mod Means
pub mod RowByRow
pub mod SheetRules
