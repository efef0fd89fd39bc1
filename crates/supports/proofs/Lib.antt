pub mod Collecting
pub mod Lines
pub mod Largest
pub mod Indices
pub mod Read
pub mod Folding
