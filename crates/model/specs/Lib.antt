pub mod Meaning
pub mod Sets
pub mod Passing
pub mod Making
pub mod Words
pub mod Joints
pub mod Views
