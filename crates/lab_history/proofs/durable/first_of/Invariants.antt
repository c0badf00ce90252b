-- none of the places before i has the value
use Rattle.std.proofs.Common.{◌≡◌, ◌+◌, drop}
use Rattle.lab_history.specs.Durable.{first_in}
use Rattle.lab_history.proofs.durable.first_of.Given as goal

abbrev pub invariant-loop-i : goal.invariant-loop-i
invariant-loop-i l = l.i + first_in (drop l.i l.values) l.value ≡ first_in l.fn.values l.value
