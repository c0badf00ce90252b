use Rattle.law_recovery.proofs.Sweeps.{sweep_law}
use Rattle.law_recovery.proofs.sweeps_show_all_cards.Goals as goal

pub returns : goal.returns
returns c = record { shown = sweep_law }
