use Rattle.std.proofs.Common.{sym, ◌∙◌}
use Rattle.mc_text.proofs.ReadingLemmas.{trim_end_falls, trim_end_stays}
use Rattle.mc_text.proofs.reading.trim_end.Goals as goal

pub returns-then-not-is_blank : goal.returns-then-not-is_blank
returns-then-not-is_blank c =
    sym (trim_end_stays c.loop-rest.rest.now c.in-len1-up.len_at_least (sym c.is_blank.ensures ∙ c.if-not-is_blank.true)) ∙ c.loop-rest.invariant

pub loop-rest-preserved : goal.loop-rest-preserved
loop-rest-preserved c =
    trim_end_falls c.loop-rest.rest.now c.in-len1-up.len_at_least (sym c.is_blank.ensures ∙ c.if-not-is_blank.false) ∙ c.loop-rest.invariant
