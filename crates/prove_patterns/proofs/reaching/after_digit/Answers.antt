use Rattle.std.proofs.Common.{◌∙◌, ℕ, List, Bor, Vec, Global, ap, sym, arith}
use Rattle.prove_facts.specs.model_prove.specs.Texts.{Opens, both_opens, after_each, after_digit, hex_digits}
use Rattle.prove_patterns.specs.Opens.{opens_of, many_of}
use Rattle.prove_patterns.proofs.ReachLemmas.{back_turn}
use Rattle.prove_patterns.proofs.reaching.after_digit.Goals as goal

pub loop-i-preserved : goal.loop-i-preserved
loop-i-preserved c =
    let x = c.index-from-i.result in
    let each = c.in_ok-after_each.ensures ∙ ap (λ (l : List (Vec (Bor (List ℕ)) Global)). after_each hex_digits (opens_of l)) c.as_slice.ensures.value in
    record {
      within = omega arith;
      many =
          c.in_ok-add_many.ensures ∙ ap (λ (m : List Opens). both_opens m (many_of c.loop-i.many.items)) each
          ∙ ap (λ (m : List Opens). both_opens (after_each hex_digits (opens_of x.items)) m) c.loop-i.invariant.many
          ∙ sym (ap (λ (l : List (Vec (Vec (Bor (List ℕ)) Global) Global)). after_digit (many_of l)) (back_turn c.args.from.now c.loop-i.i x c.loop-i-test.true c.loop-i.invariant.within c.index-from-i.is));
    }
