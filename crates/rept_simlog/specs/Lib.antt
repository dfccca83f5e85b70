pub mod Lines
pub mod Log
pub mod Program
pub mod Recorded
pub mod Walk
pub mod Hartlog
pub mod Recording
