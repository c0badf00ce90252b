use Rattle.desk_draft.proofs.TurnLemmas.{step_turns}
use Rattle.desk_draft.proofs.laws.turns_are_of_steps.Goals as goal

pub returns : goal.returns
returns c = step_turns
