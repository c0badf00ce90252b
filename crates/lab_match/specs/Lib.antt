pub use Rattle.model_events.specs.Matching
pub mod Walks
pub mod Fields

-- the libraries below that those above cite through this one
