use Rattle.std.proofs.Common.{◌≡◌, ◌+◌, drop}
use Rattle.mc_bank.specs.Memory.{facts_in, first_free}
use Rattle.mc_bank.proofs.entries.free_entry.Given as goal

abbrev pub invariant-loop-i : goal.invariant-loop-i
invariant-loop-i l = l.i + first_free (facts_in (drop l.i l.entries)) ≡ first_free (facts_in l.entries)
