use Rattle.std.proofs.Common.{◌≡◌, ◌∙◌, ◌-◌, ◌<◌, ◌++◌, ◌∷◌, [], List, ℕ, suc, get_or, drop, length, ap, sym, arith}
use Rattle.std.proofs.Math.Seq.{drop-cons}
use Rattle.std.specs.Prelude.{reverse}
use Rattle.prove_facts.specs.model_prove.specs.Digits.{Digits}
use Rattle.prove_digits.specs.States.{states_one, back_states, back_digits}
use Rattle.prove_digits.specs.Trios.{trio_value}
use Rattle.prove_digits.proofs.StepLemmas.{back_more, bytes_more, blank_step}
use Rattle.prove_digits.proofs.digits.way_to.Goals as goal

pub loop-left-preserved : goal.loop-left-preserved
loop-left-preserved c =
    let f = states_one c.args.c c.args.z in
    let ss = c.args.steps.now in
    let n = c.loop-left.left - 1 in
    let i = c.loop-left.invariant in
    let q : suc (c.loop-left.left - 1) ≡ c.loop-left.left = omega arith in
    let l : c.loop-left.left - 1 < length c.args.steps.now = omega (arith, i.bound) in
    let e = drop-cons ss n blank_step l in
    let a = i.after ∙ ap (λ (k : ℕ). back_states f (drop k ss)) (sym q) in
    let m = back_more f ss n (get_or ss n blank_step) c.loop-left.after (trio_value c.found.result) e a c.found.ensures in
    let b = bytes_more c.loop-left.way.x.items c.loop-left.way.y.items c.loop-left.way.r.items c.add_byte.new.way.x.items c.add_byte.new.way.y.items c.add_byte.new.way.r.items
    c.found.result i.second i.results c.in_ok-add_byte.ensures.x c.in_ok-add_byte.ensures.y c.in_ok-add_byte.ensures.r in
    record {
      bound = omega (arith, i.bound);
      after = c.before-after.ensures ∙ m.0;
      digits = b.0
          ∙ ap (λ (ds : List Digits). ds ++ trio_value c.found.result ∷ []) (i.digits ∙ ap (λ (k : ℕ). reverse (back_digits f (drop k ss))) (sym q)) ∙ m.1;
      second = b.1;
      results = b.2;
      carry = c.in_ok-add_byte.ensures.flags.0 ∙ i.carry;
      zero = c.in_ok-add_byte.ensures.flags.1 ∙ i.zero;
    }
