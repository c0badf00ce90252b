use Rattle.std.proofs.Common.{◌≡◌, ℕ, ◌+◌, true, sym, subst, ◌∙◌, arith}
use Rattle.prove_facts.specs.Sets.{set_of}
use Rattle.prove_facts.proofs.SetLemmas.{in_values}
use Rattle.prove_digits.specs.declared.turns.Turn.{Turn}
use Rattle.prove_digits.specs.Trios.{sum_of, trio_at, trio_value}
use Rattle.prove_digits.proofs.GrowLemmas.{AreBelow, turn_below, more_below, skip_below, all_below}
use Rattle.prove_digits.proofs.arithmetic.arithmetic.Goals.{then-has, else-has}
use Rattle.prove_digits.proofs.arithmetic.arithmetic.Goals as goal

pub loop-value-init : goal.loop-value-init
loop-value-init c d z =
    turn_below (sum_of c.args.subtracts) (set_of c.args.xs.now) (set_of c.args.ys.now) (record { c = c.args.carry; z = true }) (record { c = d; z = z }) d z

pub loop-value-preserved : goal.loop-value-preserved
loop-value-preserved c d z =
    let op = sum_of c.args.subtracts in
    let n = c.loop-value.value in
    let is = in_values c.args.ys.now.words c.loop-value.value c.loop-value-test.true ∙ sym c.has.ensures in
    elim c.if-has.branch [
      | then-has w ↦
          subst (λ (t : Turn). AreBelow op (set_of c.args.xs.now) (set_of c.args.ys.now) (record { c = c.args.carry; z = true }) (record { c = d; z = z }) (n + 1) (trio_value (trio_at t d z)))
          (sym w.turn-is)
          (more_below op (set_of c.args.xs.now) (set_of c.args.ys.now) (record { c = c.args.carry; z = true }) (record { c = d; z = z }) n
          (trio_value (trio_at c.loop-value.turn d z)) (trio_value (trio_at w.add_moves.new.turn d z)) (is ∙ w.if-has.true) (w.add_moves.ensures d z) (c.loop-value.invariant d z))
      | else-has w ↦
          subst (λ (t : Turn). AreBelow op (set_of c.args.xs.now) (set_of c.args.ys.now) (record { c = c.args.carry; z = true }) (record { c = d; z = z }) (n + 1) (trio_value (trio_at t d z)))
          (sym w.turn-is)
          (skip_below op (set_of c.args.xs.now) (set_of c.args.ys.now) (record { c = c.args.carry; z = true }) (record { c = d; z = z }) n
          (trio_value (trio_at c.loop-value.turn d z)) (is ∙ w.if-has.false) (c.loop-value.invariant d z))
    ]

pub returns : goal.returns
returns c d z =
    let e : c.loop-value.value ≡ 256 = omega arith in
    all_below (sum_of c.args.subtracts) c.args.xs.now c.args.ys.now (record { c = c.args.carry; z = true }) (record { c = d; z = z }) (trio_at c.loop-value.turn d z)
    (subst (λ (n : ℕ). AreBelow (sum_of c.args.subtracts) (set_of c.args.xs.now) (set_of c.args.ys.now) (record { c = c.args.carry; z = true }) (record { c = d; z = z }) n (trio_value (trio_at c.loop-value.turn d z)))
    e (c.loop-value.invariant d z))
