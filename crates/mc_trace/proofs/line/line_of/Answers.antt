use Rattle.model_text.specs.model_machine.specs.declared.machine.Abend.TheVariants.{A01}
use Rattle.model_text.specs.TurnText.{turn_line}
use Rattle.mc_machine.specs.declared.outcome.Outcome.TheVariants as outcome
use Rattle.mc_trace.proofs.line.line_of.Goals as goal

pub returns : goal.returns
unfolding turn_line
returns c wrote = c.line_of_brief.ensures (outcome.Abend A01) wrote
