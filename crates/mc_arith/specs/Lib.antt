pub use Rattle.law_rows.specs.model_machine.specs.Blocks
-- the libraries below that those above cite through this one
pub use Rattle.law_rows.specs.model_machine as model_machine
pub use Rattle.law_rows as law_rows
