-- What the code reads into its tables, section by section.
pub mod Readings
pub mod RowTables
pub mod WordTable
pub mod ClockTable
pub mod LinkTable
pub mod Stages
