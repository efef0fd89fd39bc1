pub mod Flaws
pub mod Makings
pub mod Firsts
pub mod Founds
