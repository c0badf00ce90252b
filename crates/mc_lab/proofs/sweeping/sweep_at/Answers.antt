use Rattle.mc_lab.proofs.SweepDecks.{open_is}
use Rattle.mc_lab.proofs.sweeping.sweep_at.Goals as goal

pub sweep_place-requires-clause-open : goal.sweep_place-requires-clause-open
sweep_place-requires-clause-open g c = open_is c.args.place.now c.in-Some.ensures.0

pub sweep_place-requires-clause-words : goal.sweep_place-requires-clause-words
sweep_place-requires-clause-words g c = c.requires.words c.args.place.now.at c.requires.at c.in-Some.ensures.0
