use Rattle.std.proofs.Common.{◌≡◌, drop}
use Rattle.lab_rules.specs.Meanings.{occasion_value}
use Rattle.lab_rules.specs.Occasions.{counts_after, counts_from}
use Rattle.lab_rules.proofs.occasions.count.Given as goal

-- the lines that are left count what all count
abbrev pub invariant-loop-i : goal.invariant-loop-i
invariant-loop-i l =
    counts_from (occasion_value l.occasion) l.plain l.i (drop l.i l.ons) l.applies l.counts ≡ counts_after (occasion_value l.fn.occasion) l.fn.plain l.fn.ons l.fn.applies l.fn.counts
