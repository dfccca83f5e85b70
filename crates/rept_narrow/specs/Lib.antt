pub mod Admitted
pub mod Rules
pub mod Stores
pub mod Sweeps
pub mod Lanes
