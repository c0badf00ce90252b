pub mod Kept
pub mod Lines
pub mod Outlines
pub mod Values
-- the libraries below that those above cite through this one
pub use Rattle.prove_forms.specs.model_sums as model_sums
