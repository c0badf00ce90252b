use Rattle.std.proofs.Common.{refl}
use Rattle.law_explore_text.specs.Computed.{explored_deck}
use Rattle.law_explore_text.proofs.purse_rows.pin_four.Goals as goal

pub returns : goal.returns
unfolding explored_deck
returns c = refl
