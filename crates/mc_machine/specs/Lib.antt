pub mod Alike
pub mod Chains
pub mod Frames
pub mod Lone
pub mod Places
pub mod Sound
pub mod Turns
pub mod Known
-- the libraries below that those above cite through this one
pub use Rattle.law_machine.specs.law_rows as law_rows
pub use Rattle.law_machine as law_machine
