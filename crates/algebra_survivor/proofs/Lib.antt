pub mod Keys
pub mod Formulas
