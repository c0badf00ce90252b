use Rattle.law_steps.proofs.RunBytes.{exact_sets, longest_runs}
use Rattle.law_steps.proofs.sets_are_what_differs.Goals as goal

pub returns : goal.returns
returns c = record { exact = exact_sets; longest = longest_runs }
