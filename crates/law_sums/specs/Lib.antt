pub mod FormLaws
pub mod OriginLaws
pub mod WriteLaws
pub mod CopyLaws
pub mod LossLaws
pub mod ReachLaws
pub mod EventLaws
pub mod TurnLaws
-- the libraries below that those above cite through this one
pub use Rattle.model_sums.specs.model_device as model_device
pub use Rattle.model_sums.specs.model_machine as model_machine
pub use Rattle.model_sums.specs.model_rules as model_rules
pub use Rattle.model_sums.specs.model_prove as model_prove
pub use Rattle.model_sums as model_sums
pub use Rattle.law_rules.specs.law_bytes.specs.law_rows as law_rows
pub use Rattle.law_rules.specs.law_machine as law_machine
pub use Rattle.law_rules.specs.law_bytes as law_bytes
pub use Rattle.law_rules.specs.law_promise as law_promise
