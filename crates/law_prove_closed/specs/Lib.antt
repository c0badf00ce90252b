pub mod Laws
pub mod Outcomes
pub mod Decks
pub mod ClosedLaw
pub mod Search
pub mod Computed
pub mod CommandLaws
pub mod ReadLaws
-- the libraries below that those above cite through this one
pub use Rattle.law_prove.specs.model_device as model_device
pub use Rattle.law_prove.specs.model_machine as model_machine
pub use Rattle.law_prove.specs.model_text as model_text
pub use Rattle.law_prove.specs.model_card as model_card
pub use Rattle.law_prove.specs.model_play as model_play
pub use Rattle.law_prove.specs.model_rules as model_rules
pub use Rattle.law_prove.specs.model_prove as model_prove
pub use Rattle.law_prove.specs.law_rows as law_rows
pub use Rattle.law_prove.specs.law_bytes as law_bytes
pub use Rattle.law_prove.specs.law_promise as law_promise
pub use Rattle.law_prove as law_prove
pub use Rattle.law_prove.specs.law_rules as law_rules
pub use Rattle.law_prove.specs.model_rule_text as model_rule_text
