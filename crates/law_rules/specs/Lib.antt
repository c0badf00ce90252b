pub mod Law
pub mod Computed
-- the libraries below that those above cite through this one
pub use Rattle.model_rule_text.specs.model_rules as model_rules
pub use Rattle.model_rule_text as model_rule_text
pub use Rattle.law_promise.specs.law_bytes as law_bytes
pub use Rattle.law_promise.specs.law_family as law_family
pub use Rattle.law_promise.specs.law_machine as law_machine
pub use Rattle.law_promise.specs.law_manager as law_manager
pub use Rattle.law_promise as law_promise
