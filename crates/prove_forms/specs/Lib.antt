pub mod Forms
pub mod Origins
-- the libraries below that those above cite through this one
pub use Rattle.model_sums as model_sums
