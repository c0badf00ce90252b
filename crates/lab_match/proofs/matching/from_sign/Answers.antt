use Rattle.std.proofs.Common.{arith, ◌∙◌}
use Rattle.lab_match.proofs.MatchingLemmas.{match_behind}
use Rattle.lab_match.proofs.matching.from_sign.Goals as goal

pub loop-rest-preserved : goal.loop-rest-preserved
loop-rest-preserved c = record {
  same = λ ps.
      match_behind c.args.sign ps c.loop-rest.rest.now c.in-len1-up.len_at_least (grind (arith, c.if-sign-eq42.false))
      (grind (arith, c.if-sign-eq63.false, c.if-small-sign.false, c.small.ensures)) ∙ c.loop-rest.invariant.same ps;
  less = omega (arith, c.in-len1-up.len_at_least, c.loop-rest.invariant.less);
}
