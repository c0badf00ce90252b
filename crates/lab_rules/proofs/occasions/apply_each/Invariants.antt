use Rattle.std.proofs.Common.{◌≡◌, ℕ, List, drop, map}
use Rattle.lab_rules.specs.Occasions.{amounts_from, capped}
use Rattle.lab_rules.proofs.occasions.apply_each.Given as goal

-- the lines that are left do to the amounts what all do to the first ones
abbrev pub invariant-loop-i : goal.invariant-loop-i
invariant-loop-i l = (ns : List ℕ) → l.counts ≡ map capped ns → amounts_from l.i (drop l.i l.ons) ns l.amounts ≡ amounts_from 0 l.fn.ons ns l.fn.amounts
