use Rattle.std.proofs.Common.{◌∙◌}
use Rattle.prove_digits.proofs.GrowLemmas.{none_value, edge_none}
use Rattle.prove_digits.proofs.turns.Turn.edge.Goals as goal

pub returns-then-zero : goal.returns-then-zero
returns-then-zero c = none_value ∙ edge_none c.args.self.now c.args.zero_so_far c.args.carry c.args.zero c.if-zero_so_far.false c.if-zero.true
