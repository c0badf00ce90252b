use Rattle.std.specs.Prelude.{not, ◌&&◌, ◌==◌}
use Rattle.prove_facts.specs.model_prove.specs.Digits.{digit}
use Rattle.prove_facts.specs.model_prove.specs.Sets.{is_in}
use Rattle.prove_facts.specs.Sets.{set_of}
use Rattle.prove_digits.specs.Trios.{trio_value}
use Rattle.prove_digits.proofs.BitLemmas.{others_made, zeros_of}
use Rattle.prove_digits.proofs.GrowLemmas.{is_grown}
use Rattle.prove_digits.proofs.bits.add_bits.Goals as goal

pub returns-clause-other : goal.returns-clause-other
returns-clause-other c op d h =
    is_grown (trio_value c.args.split.now.other) (trio_value c.grow-2.new.trio) (set_of c.parts_of-parts.result.other) c.args.y (set_of c.parts_of-parts.result.results)
    (λ x. is_in x (set_of c.args.xs.now) && not ((digit op x c.args.y d).0 == 0)) (λ x. (digit op x c.args.y d).0) c.grow-2.ensures
    (others_made c.args.xs.now (λ x. (digit op x c.args.y d).0) c.parts_of-parts.result (c.parts_of-parts.ensures op d h))

pub returns-clause-zero : goal.returns-clause-zero
returns-clause-zero c op d h =
    is_grown (trio_value c.args.split.now.zero) (trio_value c.grow.new.trio) (set_of c.parts_of-parts.result.zero) c.args.y (set_of c.one.result)
    (λ x. is_in x (set_of c.args.xs.now) && ((digit op x c.args.y d).0 == 0)) (λ x. (digit op x c.args.y d).0) c.grow.ensures
    (zeros_of c.args.xs.now (λ x. (digit op x c.args.y d).0) c.parts_of-parts.result (set_of c.one.result) (c.parts_of-parts.ensures op d h) c.one.ensures.set)
