pub mod Calculations
