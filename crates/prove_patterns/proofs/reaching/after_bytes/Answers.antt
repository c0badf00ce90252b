use Rattle.std.proofs.Common.{◌≡◌, ◌∙◌, ℕ, List, Bor, Vec, Global, ap, sym, subst, arith}
use Rattle.prove_facts.specs.model_prove.specs.Sets.{Set}
use Rattle.prove_facts.specs.model_prove.specs.Texts.{Opens, after_bytes, with_opens}
use Rattle.prove_patterns.specs.Opens.{opens_of, many_of}
use Rattle.prove_patterns.specs.Ways.{values_from}
use Rattle.prove_patterns.proofs.SignLemmas.{values_none, values_all, bytes_with, bytes_without}
use Rattle.prove_patterns.proofs.reaching.after_bytes.Goals as goal

pub loop-end-init : goal.loop-end-init
loop-end-init c =
    record {
      within = omega arith;
      many =
          ap (λ (l : List (Vec (Vec (Bor (List ℕ)) Global) Global)). many_of l) c.new-many.ensures.items
          ∙ sym (ap (λ (s : Set). after_bytes s (opens_of c.args.opens.now)) (values_none c.args.set.now.words));
    }

pub loop-end-preserved-in_ok-add_opens : goal.loop-end-preserved-in_ok-add_opens
loop-end-preserved-in_ok-add_opens c =
    record {
      within = omega arith;
      many =
          bytes_with c.args.set.now.words c.loop-end.end (opens_of c.args.opens.now) (many_of c.loop-end.many.items) (many_of c.add_opens.new.many.items) c.loop-end-test.true c.loop-end.invariant.within
          (sym c.has.ensures ∙ c.if-has.true) c.loop-end.invariant.many (c.in_ok-add_opens.ensures ∙ ap (λ (p : Opens). with_opens p (many_of c.loop-end.many.items)) c.in_ok-all_after.ensures);
    }

pub loop-end-preserved : goal.loop-end-preserved
loop-end-preserved c =
    record {
      within = omega arith;
      many =
          bytes_without c.args.set.now.words c.loop-end.end (opens_of c.args.opens.now) (many_of c.loop-end.many.items) c.loop-end-test.true c.loop-end.invariant.within (sym c.has.ensures ∙ c.if-has.false)
          c.loop-end.invariant.many;
    }

pub returns : goal.returns
returns c =
    let none : c.loop-end.end ≡ 0 = omega arith in
    let ws = c.args.set.now.words in
    subst (λ (k : ℕ). many_of c.loop-end.many.items ≡ after_bytes (values_from ws k) (opens_of c.args.opens.now)) none c.loop-end.invariant.many
    ∙ ap (λ (s : Set). after_bytes s (opens_of c.args.opens.now)) (values_all ws)
