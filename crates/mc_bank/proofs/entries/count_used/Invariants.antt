use Rattle.std.proofs.Common.{◌≡◌, ◌+◌, ◌≤◌, drop}
use Rattle.mc_bank.specs.Memory.{facts_in, count_of_used}
use Rattle.mc_bank.proofs.entries.count_used.Given as goal

abbrev pub invariant-loop-entry : goal.invariant-loop-entry
invariant-loop-entry l =
    record {
      few : l.count ≤ l.entry-index;
      rest : l.count + count_of_used (facts_in (drop l.entry-index l.entries)) ≡ count_of_used (facts_in l.entries);
    }
