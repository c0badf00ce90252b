use Rattle.law_explore.proofs.FitLemmas.{fits_law}
use Rattle.law_explore.proofs.laws.patterns_are_those_of_expectations.Goals as goal

pub returns : goal.returns
returns c = fits_law
