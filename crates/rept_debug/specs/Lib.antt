pub mod Begin
pub mod Debugged
pub mod Process
pub mod Dialog
