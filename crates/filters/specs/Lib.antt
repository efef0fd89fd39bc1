pub mod Keeping
pub mod Sweeps
pub mod Queues
pub mod Filtering
pub mod Copies
