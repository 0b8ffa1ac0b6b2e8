pub mod Shifts
