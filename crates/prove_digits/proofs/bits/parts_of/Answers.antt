use Rattle.std.proofs.Common.{◌≡◌, ℕ, ◌+◌, sym, subst, ◌∙◌, refl, arith}
use Rattle.std.specs.Prelude.{◌==◌}
use Rattle.prove_facts.specs.model_prove.specs.Digits.{digit}
use Rattle.prove_facts.specs.Sets.{set_of}
use Rattle.prove_facts.proofs.SetLemmas.{in_values}
use Rattle.prove_digits.specs.declared.bits.Parts.{Parts}
use Rattle.prove_digits.specs.Bits.{AreParts}
use Rattle.prove_digits.proofs.BitLemmas.{no_parts, parts_more, parts_skip}
use Rattle.prove_digits.proofs.GrowLemmas.{zeros, empty_words}
use Rattle.prove_digits.proofs.bits.parts_of.Goals.{then-has, else-has}
use Rattle.prove_digits.proofs.bits.parts_of.Goals as goal

pub loop-value-init : goal.loop-value-init
loop-value-init c op d h =
    no_parts (λ x. (digit op x c.args.y d).0) (set_of c.args.xs.now) (record { other = record { words = zeros }; zero = record { words = zeros }; results = record { words = zeros } })
    empty_words empty_words empty_words

pub loop-value-preserved : goal.loop-value-preserved
loop-value-preserved c op d h =
    let n = c.loop-value.value in
    let is = in_values c.args.xs.now.words c.loop-value.value c.loop-value-test.true ∙ sym c.has.ensures in
    elim c.if-has.branch [
      | then-has w ↦
          subst (λ (p : Parts). AreParts (n + 1) (λ x. (digit op x c.args.y d).0) (set_of c.args.xs.now) p) (sym w.parts-is)
          (parts_more (w.bits.result == 0) n w.bits.result (λ x. (digit op x c.args.y d).0) (set_of c.args.xs.now) c.loop-value.parts w.add_result.new.parts refl (is ∙ w.if-has.true)
          (w.bits.ensures op d h) w.add_result.ensures.other w.add_result.ensures.zero w.add_result.ensures.results (c.loop-value.invariant op d h))
      | else-has w ↦
          subst (λ (p : Parts). AreParts (n + 1) (λ x. (digit op x c.args.y d).0) (set_of c.args.xs.now) p) (sym w.parts-is)
          (parts_skip n (λ x. (digit op x c.args.y d).0) (set_of c.args.xs.now) c.loop-value.parts (is ∙ w.if-has.false) (c.loop-value.invariant op d h))
    ]

pub returns : goal.returns
returns c op d h =
    let e : c.loop-value.value ≡ 256 = omega arith in
    subst (λ (n : ℕ). AreParts n (λ x. (digit op x c.args.y d).0) (set_of c.args.xs.now) c.loop-value.parts) e (c.loop-value.invariant op d h)
