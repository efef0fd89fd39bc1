pub mod Makings
pub mod Counts
pub mod Unjoined
