use Rattle.std.proofs.Common.{◌≡◌, ◌∙◌, ℕ, ap, subst, drop, map, arith}
use Rattle.prove_facts.specs.model_prove.specs.Texts.{Opens, after_character, after_each, hex_digits, with_opens}
use Rattle.prove_patterns.specs.Opens.{opens_of, many_of}
use Rattle.prove_patterns.proofs.SignLemmas.{digits_step}
use Rattle.prove_patterns.proofs.reaching.after_each.Goals as goal

pub loop-digit-preserved : goal.loop-digit-preserved
loop-digit-preserved c =
    let o = opens_of c.args.opens.now in
    let after = c.in_ok-each_after.ensures ∙ ap (λ (s : ℕ). map (after_character s) (opens_of c.args.opens.now)) c.digit_sign.ensures in
    record {
      within = omega arith;
      many =
          digits_step c.loop-digit.digit o (many_of c.loop-digit.many.items) (many_of c.add_opens.new.many.items) c.loop-digit-test.true c.loop-digit.invariant.within c.loop-digit.invariant.many
          (c.in_ok-add_opens.ensures ∙ ap (λ (p : Opens). with_opens p (many_of c.loop-digit.many.items)) after);
    }

pub returns : goal.returns
returns c =
    let none : c.loop-digit.digit ≡ 0 = omega arith in
    subst (λ (k : ℕ). many_of c.loop-digit.many.items ≡ after_each (drop k hex_digits) (opens_of c.args.opens.now)) none c.loop-digit.invariant.many
