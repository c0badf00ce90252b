use Rattle.std.proofs.Common.{arith, refl}
use Rattle.lab_rules.proofs.ReadLemmas.{longer_is, rule_text_is}
use Rattle.lab_rules.proofs.reading.rule_text.Goals as goal

pub returns-then-ne-clause-refused : goal.returns-then-ne-clause-refused
returns-then-ne-clause-refused c =
    (refl, longer_is c.args.line.now c.in-Some.mark.now c.in-Some.behind.now c.in-Some.ensures.parts (grind (arith, c.ne.ensures, c.if-ne.true, c.as_slice.ensures)))

pub returns-clause-text : goal.returns-clause-text
returns-clause-text c =
    rule_text_is c.args.line.now c.trim.result.now c.in-Some.mark.now c.in-Some.behind.now c.in-Some.ensures.parts c.in-Some.ensures.rest c.requires.marked
    (grind (arith, c.ne.ensures, c.if-ne.false, c.as_slice.ensures)) c.trim.ensures c.requires.one
