pub mod Logs
pub mod Process
pub mod Qemu
pub mod QemuParts
pub mod Worked
