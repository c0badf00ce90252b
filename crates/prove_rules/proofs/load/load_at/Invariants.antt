use Rattle.std.proofs.Common.{◌≡◌, drop}
use Rattle.prove_rules.specs.Loads.{loaded_at}
use Rattle.prove_rules.proofs.load.load_at.Given as goal

-- the line of the number among those that are left is that among all
abbrev pub invariant-loop-i : goal.invariant-loop-i
invariant-loop-i l = loaded_at l.fn.number l.fn.deck ≡ loaded_at l.fn.number (drop l.i l.fn.deck)
