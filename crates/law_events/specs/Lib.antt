pub mod Events
pub mod Turns
pub mod Laws
-- the libraries below that those above cite through this one
pub use Rattle.law_promise as law_promise
pub use Rattle.law_steps as law_steps
pub use Rattle.model_rules as model_rules
