-- the places so far and those that are left have the value as often as all
use Rattle.std.proofs.Common.{◌≡◌, ◌+◌, ◌≤◌, drop}
use Rattle.lab_history.specs.Durable.{count_in}
use Rattle.lab_history.proofs.durable.count_of.Given as goal

abbrev pub invariant-loop-it : goal.invariant-loop-it
invariant-loop-it l = record {
  count : l.count + count_in (drop l.it-index l.values) l.value ≡ count_in l.fn.values l.value;
  low : l.count ≤ l.it-index;
}
