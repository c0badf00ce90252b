use Rattle.prove_facts.proofs.BitLemmas.{not_bit}
use Rattle.std.proofs.Common.{arith}
use Rattle.prove_facts.proofs.values.inverted.Goals as goal

pub returns : goal.returns
returns c i h = not_bit c.args.word i (omega arith) h
