use Rattle.std.proofs.Common.{arith}
use Rattle.prove_facts.proofs.values.are_zero.Goals as goal

pub returns-clause-fit : goal.returns-clause-fit
returns-clause-fit c = (omega arith, omega arith, omega arith, omega arith)
