use Rattle.law_explore.proofs.Decisions.{state_law}
use Rattle.law_explore.proofs.laws.states_decide_answers.Goals as goal

pub returns : goal.returns
returns c = state_law
