pub mod Ranges
pub mod Strikes
pub mod Baring
pub mod Sweeping
pub mod Tickets
pub mod Queueing
pub mod Ends
pub mod Agreeing
