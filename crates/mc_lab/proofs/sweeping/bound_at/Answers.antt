use Rattle.mc_lab.proofs.SweepDecks.{open_is}
use Rattle.mc_lab.proofs.SweepLoops.{if_none_then}
use Rattle.mc_lab.proofs.sweeping.bound_at.Goals as goal

pub bound-requires-clause-open : goal.bound-requires-clause-open
bound-requires-clause-open g c = open_is c.args.place.now c.in-Some.ensures.0

pub returns-in-Some-clause-many : goal.returns-in-Some-clause-many
returns-in-Some-clause-many g c = if_none_then c.bound.result (λ many. (c.in-Some.ensures.0, many)) c.bound.ensures.many
