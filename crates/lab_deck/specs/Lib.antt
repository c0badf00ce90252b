pub mod Applications
pub mod Moves
-- the libraries below that those above cite through this one
pub use Rattle.law_histories.specs.law_explore_text as law_explore_text
pub use Rattle.law_histories as law_histories
