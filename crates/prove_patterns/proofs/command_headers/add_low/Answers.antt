use Rattle.std.proofs.Common.{◌≡◌, ◌∙◌, ◌+◌, ◌*◌, ◌-◌, ℕ, map, ap, sym, subst, arith}
use Rattle.prove_facts.specs.model_prove.specs.Between.{by_left, with_left}
use Rattle.prove_facts.specs.model_prove.specs.Texts.{Opens, after_character}
use Rattle.prove_patterns.specs.Opens.{opens_of}
use Rattle.prove_patterns.specs.Ways.{values_from}
use Rattle.prove_patterns.specs.Headers.{groups_of}
use Rattle.prove_patterns.proofs.HeaderLemmas.{low_with, low_without}
use Rattle.prove_patterns.proofs.command_headers.add_low.Goals as goal

pub loop-end-preserved-in_ok-add_left : goal.loop-end-preserved-in_ok-add_left
loop-end-preserved-in_ok-add_left c =
    record {
      within = omega arith;
      groups =
          λ o e so.
          low_with c.args.set.now.words c.args.high c.loop-end.end o (opens_of c.args.half.now) (groups_of c.loop-end.groups.items) (groups_of c.add_left.new.groups.items) (omega arith)
          c.loop-end-test.true c.loop-end.invariant.within (sym c.has.ensures ∙ c.if-has.true) e (c.loop-end.invariant.groups o e so)
          (c.in_ok-add_left.ensures ∙ ap (λ (p : Opens). with_left (16 * c.args.high + (c.loop-end.end - 1)) p (groups_of c.loop-end.groups.items))
          (c.in_ok-each_after.ensures ∙ ap (λ (d : ℕ). map (after_character d) (opens_of c.args.half.now)) c.digit_sign.ensures));
    }

pub loop-end-preserved : goal.loop-end-preserved
loop-end-preserved c =
    record {
      within = omega arith;
      groups =
          λ o e so.
          low_without c.args.set.now.words c.args.high c.loop-end.end o (groups_of c.loop-end.groups.items) (omega arith) c.loop-end-test.true c.loop-end.invariant.within
          (sym c.has.ensures ∙ c.if-has.false) (c.loop-end.invariant.groups o e so);
    }

pub returns : goal.returns
returns c o e so =
    let none : 16 * c.args.high + c.loop-end.end ≡ 16 * c.args.high = omega arith in
    subst (λ (k : ℕ). groups_of c.loop-end.groups.items ≡ by_left o (values_from c.args.set.now.words k)) none (c.loop-end.invariant.groups o e so)
