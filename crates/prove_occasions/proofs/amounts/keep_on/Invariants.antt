use Rattle.std.proofs.Common.{◌≡◌, drop}
use Rattle.prove_occasions.specs.Amounts.{after_tested, is_due}
use Rattle.prove_occasions.proofs.amounts.keep_on.Given as goal

-- the lines that are left do to the amounts what all do to the first ones
abbrev pub invariant-loop-on : goal.invariant-loop-on
invariant-loop-on l = after_tested (is_due l.occasion) (drop l.on-index l.ons) l.amounts.items ≡ after_tested (is_due l.fn.occasion) l.fn.ons l.fn.amounts.items
