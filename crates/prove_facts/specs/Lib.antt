pub mod Facts
pub mod Packed
pub mod Packing
pub mod Sets
-- the libraries below that those above cite through this one
pub use Rattle.model_prove.specs.model_text as model_text
pub use Rattle.model_prove.specs.model_rules as model_rules
pub use Rattle.model_prove as model_prove
