pub mod Coverings
pub mod Laws
pub mod Rows
pub mod Decks
pub mod Computed
pub mod KeptDecks
-- the libraries below that those above cite through this one
pub use Rattle.law_prove_closed.specs.model_device as model_device
pub use Rattle.law_prove_closed.specs.model_machine as model_machine
pub use Rattle.law_prove_closed.specs.model_text as model_text
pub use Rattle.law_prove_closed.specs.model_card as model_card
pub use Rattle.law_prove_closed.specs.model_play as model_play
pub use Rattle.law_prove_closed.specs.model_rules as model_rules
pub use Rattle.law_prove_closed.specs.model_prove as model_prove
pub use Rattle.law_sums.specs.model_sums as model_sums
pub use Rattle.law_prove_closed.specs.law_rows as law_rows
pub use Rattle.law_prove_closed as law_prove_closed
pub use Rattle.law_prove_closed.specs.law_rules as law_rules
pub use Rattle.law_prove_closed.specs.model_rule_text as model_rule_text
pub use Rattle.law_sums as law_sums
