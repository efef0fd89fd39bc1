pub mod Formulas
pub mod Faults
pub mod Sound
