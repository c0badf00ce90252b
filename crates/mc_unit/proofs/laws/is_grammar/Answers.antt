use Rattle.mc_unit.proofs.Grammar.{unit_is}
use Rattle.mc_unit.proofs.laws.is_grammar.Goals as goal

pub returns : goal.returns
returns c b u fits = unit_is b u fits
