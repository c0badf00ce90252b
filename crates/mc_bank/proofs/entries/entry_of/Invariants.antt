use Rattle.std.proofs.Common.{◌≡◌, drop}
use Rattle.mc_bank.specs.Memory.{facts_in, is_named}
use Rattle.mc_bank.proofs.entries.entry_of.Given as goal

abbrev pub invariant-loop-i : goal.invariant-loop-i
invariant-loop-i l = is_named (facts_in (drop l.i l.entries)) l.aid ≡ is_named (facts_in l.entries) l.aid
