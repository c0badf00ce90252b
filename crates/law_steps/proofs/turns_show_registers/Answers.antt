use Rattle.law_steps.proofs.RegistersAfter.{registers_law}
use Rattle.law_steps.proofs.turns_show_registers.Goals as goal

pub returns : goal.returns
returns c = record { registers = registers_law }
