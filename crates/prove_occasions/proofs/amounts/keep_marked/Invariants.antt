use Rattle.std.proofs.Common.{◌≡◌, drop}
use Rattle.prove_occasions.specs.Amounts.{after_marked}
use Rattle.prove_occasions.proofs.amounts.keep_marked.Given as goal

-- the lines and the marks that are left do to the amounts what all do to the first ones
abbrev pub invariant-loop-on : goal.invariant-loop-on
invariant-loop-on l = after_marked l.rest (drop l.on-index l.ons) l.amounts.items ≡ after_marked l.fn.marks l.fn.ons l.fn.amounts.items
