use Rattle.std.proofs.Common.{drop}
use Rattle.prove_keys.specs.Tables.{AreDistinct}
use Rattle.prove_closed.specs.Classes.{lists_of}
use Rattle.prove_closed.proofs.classes.are_distinct.Given as goal

-- if the classes that are left are distinct, all are
abbrev pub invariant-loop-number : goal.invariant-loop-number
invariant-loop-number l = AreDistinct (lists_of (drop l.number l.classes)) → AreDistinct (lists_of l.classes)
