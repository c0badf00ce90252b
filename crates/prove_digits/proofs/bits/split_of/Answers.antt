use Rattle.std.proofs.Common.{◌≡◌, ℕ, ◌+◌, true, sym, subst, ◌∙◌, arith}
use Rattle.prove_facts.specs.Sets.{set_of}
use Rattle.prove_facts.proofs.SetLemmas.{in_values}
use Rattle.prove_digits.specs.declared.turns.Split.{Split}
use Rattle.prove_digits.specs.Trios.{trio_in, trio_value}
use Rattle.prove_digits.proofs.BitLemmas.{split_grow}
use Rattle.prove_digits.proofs.GrowLemmas.{AreBelow, split_below, more_below, skip_below, all_below}
use Rattle.prove_digits.proofs.bits.split_of.Goals.{then-has, else-has}
use Rattle.prove_digits.proofs.bits.split_of.Goals as goal

pub loop-value-init : goal.loop-value-init
loop-value-init c op d z h = split_below op (set_of c.args.xs.now) (set_of c.args.ys.now) (record { c = d; z = true }) (record { c = d; z = z }) z

pub loop-value-preserved : goal.loop-value-preserved
loop-value-preserved c op d z h =
    let n = c.loop-value.value in
    let is = in_values c.args.ys.now.words c.loop-value.value c.loop-value-test.true ∙ sym c.has.ensures in
    elim c.if-has.branch [
      | then-has w ↦
          subst (λ (t : Split). AreBelow op (set_of c.args.xs.now) (set_of c.args.ys.now) (record { c = d; z = true }) (record { c = d; z = z }) (n + 1) (trio_value (trio_in t z)))
          (sym w.split-is)
          (more_below op (set_of c.args.xs.now) (set_of c.args.ys.now) (record { c = d; z = true }) (record { c = d; z = z }) n
          (trio_value (trio_in c.loop-value.split z)) (trio_value (trio_in w.add_bits.new.split z)) (is ∙ w.if-has.true)
          (split_grow c.args.how op d (set_of c.args.xs.now) n c.loop-value.split w.add_bits.new.split h (w.add_bits.ensures.other op d h) (w.add_bits.ensures.zero op d h) z)
          (c.loop-value.invariant op d z h))
      | else-has w ↦
          subst (λ (t : Split). AreBelow op (set_of c.args.xs.now) (set_of c.args.ys.now) (record { c = d; z = true }) (record { c = d; z = z }) (n + 1) (trio_value (trio_in t z)))
          (sym w.split-is)
          (skip_below op (set_of c.args.xs.now) (set_of c.args.ys.now) (record { c = d; z = true }) (record { c = d; z = z }) n
          (trio_value (trio_in c.loop-value.split z)) (is ∙ w.if-has.false) (c.loop-value.invariant op d z h))
    ]

pub returns : goal.returns
returns c op d z h =
    let e : c.loop-value.value ≡ 256 = omega arith in
    all_below op c.args.xs.now c.args.ys.now (record { c = d; z = true }) (record { c = d; z = z }) (trio_in c.loop-value.split z)
    (subst (λ (n : ℕ). AreBelow op (set_of c.args.xs.now) (set_of c.args.ys.now) (record { c = d; z = true }) (record { c = d; z = z }) n (trio_value (trio_in c.loop-value.split z)))
    e (c.loop-value.invariant op d z h))
