use Rattle.std.proofs.Common.{drop}
use Rattle.std.specs.List.{AllByRecursion}
use Rattle.prove_keys.specs.Tables.{IsWholePlace}
use Rattle.prove_keys.proofs.tables.are_whole_places.Given as goal

-- if those that are left are whole, all are
abbrev pub invariant-loop-key : goal.invariant-loop-key
invariant-loop-key l = AllByRecursion (IsWholePlace l.names l.classes) (drop l.key-index l.keys) → AllByRecursion (IsWholePlace l.names l.classes) l.keys
