use Rattle.std.proofs.Common.{◌+◌, ◌%◌, arith}
use Rattle.std.specs.Prelude.{not, ◌&&◌, ◌==◌}
use Rattle.prove_facts.specs.model_prove.specs.Sets.{is_in}
use Rattle.prove_facts.specs.Sets.{set_of}
use Rattle.prove_digits.specs.Trios.{trio_value}
use Rattle.prove_digits.proofs.GrowLemmas.{is_grown}
use Rattle.prove_digits.proofs.TurnLemmas.{other_made, zero_made}
use Rattle.prove_digits.proofs.arithmetic.add_part.Goals as goal

pub returns-clause-other : goal.returns-clause-other
returns-clause-other c =
    is_grown (trio_value c.args.split.now.other) (trio_value c.grow-2.new.trio) (set_of c.and-rest.result) c.args.y (set_of c.moved.result)
    (λ x. is_in x (set_of c.args.part.now) && not ((x + c.args.by) % 256 == 0)) (λ x. (x + c.args.by) % 256) c.grow-2.ensures
    (other_made c.args.part.now c.and-rest.result c.one-end.result c.not.result c.moved.result c.args.by c.wrapping_neg.result (omega arith) (omega arith)
    c.wrapping_neg.ensures c.one-end.ensures.values c.not.ensures c.and-rest.ensures.set c.moved.ensures)

pub returns-clause-zero : goal.returns-clause-zero
returns-clause-zero c =
    is_grown (trio_value c.args.split.now.zero) (trio_value c.grow.new.trio) (set_of c.and.result) c.args.y (set_of c.one.result)
    (λ x. is_in x (set_of c.args.part.now) && ((x + c.args.by) % 256 == 0)) (λ x. (x + c.args.by) % 256) c.grow.ensures
    (zero_made c.args.part.now c.and.result c.one-end.result (set_of c.one.result) c.args.by c.wrapping_neg.result (omega arith) (omega arith)
    c.wrapping_neg.ensures c.one-end.ensures.values c.and.ensures.set c.one.ensures.set)
