use Rattle.std.proofs.Common.{refl}
use Rattle.law_explore_text.specs.Computed.{explored_deck}
use Rattle.law_explore_text.proofs.purse_rows.late_guess.Goals as goal

pub returns : goal.returns
unfolding explored_deck
returns c = refl
