use Rattle.std.proofs.Common.{arith}
use Rattle.model_events.specs.Matching.{plain}
use Rattle.lab_match.proofs.MatchingLemmas.{walked_star, walked_short, walked_apart, walked_step, walked_end}
use Rattle.lab_match.proofs.matching.walk_to_star.Goals as goal

pub returns-then-sign-eq42-clause-is : goal.returns-then-sign-eq42-clause-is
returns-then-sign-eq42-clause-is c =
    walked_star (plain c.args.pattern.now) (plain c.args.text.now) (plain c.loop-sign.signs.now) c.in-Some.sign (plain c.in-Some.next_signs.now) (plain c.loop-sign.rest.now)
    c.in-Some.ensures.parts (grind (arith, c.if-sign-eq42.true)) c.loop-sign.invariant.walked

pub returns-in_default-first_of-clause-is : goal.returns-in_default-first_of-clause-is
returns-in_default-first_of-clause-is c =
    walked_short (plain c.args.pattern.now) (plain c.args.text.now) (plain c.loop-sign.signs.now) (plain c.loop-sign.rest.now) c.in-Some.sign (plain c.in-Some.next_signs.now)
    c.in-Some.ensures.parts c.in_default-first_of.ensures.parts (grind (arith, c.if-sign-eq42.false)) c.loop-sign.invariant.walked

pub returns-then-not-stands_for-clause-is : goal.returns-then-not-stands_for-clause-is
returns-then-not-stands_for-clause-is c =
    walked_apart (plain c.args.pattern.now) (plain c.args.text.now) (plain c.loop-sign.signs.now) (plain c.loop-sign.rest.now) c.in-Some.sign (plain c.in-Some.next_signs.now) c.in-Some-first_of.character (plain c.in-Some-first_of.behind.now)
    c.in-Some.ensures.parts c.in-Some-first_of.ensures.parts (grind (arith, c.if-sign-eq42.false)) (grind (arith, c.if-not-stands_for.true, c.stands_for.ensures)) c.loop-sign.invariant.walked

pub loop-sign-preserved : goal.loop-sign-preserved
loop-sign-preserved c = record {
  walked =
      walked_step (plain c.args.pattern.now) (plain c.args.text.now) (plain c.loop-sign.signs.now) (plain c.loop-sign.rest.now) c.in-Some.sign (plain c.in-Some.next_signs.now) c.in-Some-first_of.character (plain c.in-Some-first_of.behind.now)
      c.in-Some.ensures.parts c.in-Some-first_of.ensures.parts (grind (arith, c.if-sign-eq42.false)) (grind (arith, c.if-not-stands_for.false, c.stands_for.ensures)) c.loop-sign.invariant.walked;
  fewer = omega (arith, c.in-Some.ensures.shorter, c.loop-sign.invariant.fewer);
  less = omega (arith, c.in-Some-first_of.ensures.shorter, c.loop-sign.invariant.less);
}

pub returns-in-None-clause-is : goal.returns-in-None-clause-is
returns-in-None-clause-is c =
    walked_end (plain c.args.pattern.now) (plain c.args.text.now) (plain c.loop-sign.signs.now) (plain c.loop-sign.rest.now) _
    c.in_default.ensures.parts c.in-None.ensures.parts c.loop-sign.invariant.walked

pub returns-in-Some-first_of-2-clause-is : goal.returns-in-Some-first_of-2-clause-is
returns-in-Some-first_of-2-clause-is c =
    walked_end (plain c.args.pattern.now) (plain c.args.text.now) (plain c.loop-sign.signs.now) (plain c.loop-sign.rest.now) _
    c.in_default.ensures.parts c.in-Some-first_of-2.ensures.parts c.loop-sign.invariant.walked
