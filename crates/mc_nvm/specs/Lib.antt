pub mod Sim
pub mod Probe
pub mod Tape
pub mod Taped
