use Rattle.law_explore.proofs.Decisions.{words_law}
use Rattle.law_explore.proofs.laws.meanings_decide_states.Goals as goal

pub returns : goal.returns
returns c = words_law
