use Rattle.std.proofs.Common.{◌∙◌, sym}
use Rattle.prove_arrivals.proofs.LandingLemmas.{facts_same}
use Rattle.prove_arrivals.proofs.landings.are_same.Goals as goal

pub returns : goal.returns
returns c e = facts_same c.args.facts.now c.args.others.now (sym c.eq.ensures ∙ e)
