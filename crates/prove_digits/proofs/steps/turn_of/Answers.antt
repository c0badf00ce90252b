use Rattle.std.proofs.Common.{subst}
use Rattle.prove_facts.specs.model_prove.specs.Digits.{Operation}
use Rattle.prove_facts.specs.Sets.{set_of}
use Rattle.prove_digits.specs.Trios.{IsTurn}
use Rattle.prove_digits.proofs.BitLemmas.{add_is, sub_is, bitwise_else}
use Rattle.prove_digits.proofs.steps.turn_of.Goals as goal

pub returns-in-Add : goal.returns-in-Add
returns-in-Add c op h =
    subst (λ (o : Operation). IsTurn o (set_of c.args.xs.now) (set_of c.args.ys.now) c.args.carry c.arithmetic.result) (add_is c.args.digit op c.in-Add.is h) c.arithmetic.ensures

pub returns-in-Sub : goal.returns-in-Sub
returns-in-Sub c op h =
    subst (λ (o : Operation). IsTurn o (set_of c.args.xs.now) (set_of c.args.ys.now) c.args.carry c.arithmetic-in-Sub.result) (sub_is c.args.digit op c.in-Sub.is h) c.arithmetic-in-Sub.ensures

pub returns-in_default : goal.returns-in_default
returns-in_default c op h = c.logical.ensures op (bitwise_else c.args.digit op c.in_default.not-Add c.in_default.not-Sub h)
