use Rattle.prove_digits.specs.declared.steps.Step.{Step}
use Rattle.prove_digits.proofs.EdgeLemmas.{is_step}
use Rattle.prove_digits.proofs.steps.step_of.Goals as goal

pub returns-clause-turns : goal.returns-clause-turns
returns-clause-turns c op h =
    let s : Step = record { before = c.args.before; plain = c.turn_if.result; carried = c.turn_if-2.result } in
    is_step op c.args.xs.now c.args.ys.now s c.or.result c.or-2.result c.or.ensures c.or-2.ensures (λ e. c.turn_if.ensures op h e) (λ e. c.turn_if-2.ensures op h e)
