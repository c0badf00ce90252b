use Rattle.std.proofs.Common.{◌≡◌, ◌+◌, ◌-◌, ◌∙◌, ap, arith, get_or, length}
use Rattle.std.proofs.lemmas.Grind.{common_steps}
use Rattle.lab_history.specs.Digits.{digit_at}
use Rattle.lab_history.proofs.DigitLemmas.{sum_ends, sum_step}
use Rattle.lab_history.proofs.arithmetic.add.Goals as goal

pub loop-i-preserved : goal.loop-i-preserved
loop-i-preserved c =
    let a = c.loop-i.block in
    let b = c.args.number.now in
    let j = c.loop-i.i - 1 in
    let d = get_or a j 0 + c.digit-other.result + c.loop-i.carry in
    let same : d ≡ get_or a j 0 + digit_at b (length a - c.loop-i.i) + c.loop-i.carry = ap (λ x. get_or a j 0 + x + c.loop-i.carry) (c.digit-other.ensures ∙ ap (digit_at b) (omega arith)) in
    record {
      front = grind (arith, common_steps, c.loop-i.invariant.front);
      sum = sum_step a c.args.block.now b c.loop-i.i j c.loop-i.carry d (omega arith) (omega arith) (omega arith) (c.loop-i.invariant.front j (omega arith)) same c.loop-i.invariant.sum;
      bit = omega arith;
    }

pub returns : goal.returns
returns c = sum_ends c.loop-i.block c.args.block.now c.args.number.now c.loop-i.i c.loop-i.carry (omega arith) (omega arith) c.loop-i.invariant.sum
