use Rattle.std.proofs.Common.{◌≡◌, drop}
use Rattle.lab_rules.specs.Occasions.{has_turns}
use Rattle.lab_rules.proofs.occasions.has_turns.Given as goal

-- a line is among those that are left if one is among all
abbrev pub invariant-loop-i : goal.invariant-loop-i
invariant-loop-i l = has_turns (drop l.i l.ons) (drop l.i l.applies) ≡ has_turns l.fn.ons l.fn.applies
