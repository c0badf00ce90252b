use Rattle.std.proofs.Common.{drop, map, refl}
use Rattle.std.proofs.lemmas.List.{drop_all}
use Rattle.model_rule_text.specs.Reading.{are_sums}
use Rattle.lab_app_rules.specs.Rules.{allowance_of, name_of}
use Rattle.prove_rules.specs.Always.{term_of}
use Rattle.prove_rules.proofs.AlwaysLemmas.{are_no_sums, sums_refused, sums_step}
use Rattle.prove_rules.proofs.SumLemmas.{terms_end, terms_next}
use Rattle.prove_rules.proofs.always.sums_of.Goals as goal

pub returns-in_default-clause-refused : goal.returns-in_default-clause-refused
returns-in_default-clause-refused c =
    let whole = are_sums (map allowance_of c.args.sums.now) (map term_of c.args.names.now) in
    are_no_sums whole c.refused.result
    (sums_refused (map allowance_of c.args.sums.now) c.args.names.now c.loop-signed.signed-index _ whole c.loop-signed-test.true c.in_default.ensures c.loop-signed.invariant.named) c.refused.ensures

pub loop-signed-preserved : goal.loop-signed-preserved
loop-signed-preserved c = record {
  named =
      sums_step (map allowance_of c.args.sums.now) c.args.names.now c.loop-signed.signed-index c.in-Some.sum _ (are_sums (map allowance_of c.args.sums.now) (map term_of c.args.names.now))
      c.loop-signed-test.true c.in-Some.ensures c.loop-signed.invariant.named;
  left = terms_next c.args.sums.now c.args.names.now c.loop-signed.signed-index _ c.loop-signed.list.items c.push.new.list.items _ c.loop-signed-test.true refl c.in-Some.ensures c.in_ok-push.ensures c.loop-signed.invariant.left;
}

pub returns-clause-terms : goal.returns-clause-terms
returns-clause-terms c =
    terms_end (map name_of c.args.sums.now) c.args.names.now (drop c.loop-signed.signed-index c.args.names.now) c.loop-signed.list.items (drop_all c.loop-signed.signed-index c.args.names.now c.loop-signed-test.false) c.loop-signed.invariant.left
