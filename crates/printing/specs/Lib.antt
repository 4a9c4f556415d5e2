-- What is printed of a sheet, byte by byte (document 01, "Printing").
pub mod Text
pub mod Printed
pub mod Theorems
pub mod Inner
pub mod Cases
