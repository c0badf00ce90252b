pub mod Histories
pub mod Searches
pub mod Computed
pub mod Kept
pub mod KeptComputed
-- the libraries below that those above cite through this one
pub use Rattle.law_explore_text.specs.model_device as model_device
pub use Rattle.law_explore_text.specs.model_machine as model_machine
pub use Rattle.law_explore_text.specs.model_text as model_text
pub use Rattle.law_explore_text.specs.model_card as model_card
pub use Rattle.law_explore_text.specs.model_play as model_play
pub use Rattle.law_rules.specs.model_rules as model_rules
pub use Rattle.law_rules.specs.law_manager as law_manager
pub use Rattle.law_rules.specs.law_family as law_family
pub use Rattle.law_rules.specs.law_promise as law_promise
pub use Rattle.law_explore_text.specs.law_explore as law_explore
pub use Rattle.law_explore_text as law_explore_text
pub use Rattle.law_rules as law_rules
pub use Rattle.law_rules.specs.model_rule_text as model_rule_text
