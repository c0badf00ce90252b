use Rattle.std.proofs.Common.{◌≡◌, drop}
use Rattle.lab_search.specs.Tallies.{heard_from}
use Rattle.lab_search.proofs.tally.hear_all.Given as goal

-- the counts that are left note what all note
abbrev pub invariant-loop-i : goal.invariant-loop-i
invariant-loop-i l = heard_from l.i (drop l.i l.counts) l.heard ≡ heard_from 0 l.fn.counts l.fn.heard
