use Rattle.std.proofs.Common.{drop}
use Rattle.std.specs.List.{AllByRecursion}
use Rattle.prove_keys.specs.Tables.{IsWholeMoment}
use Rattle.prove_keys.proofs.tables.are_whole_moments.Given as goal

-- if those that are left are whole, all are
abbrev pub invariant-loop-key : goal.invariant-loop-key
invariant-loop-key l = AllByRecursion (IsWholeMoment l.names) (drop l.key-index l.keys) → AllByRecursion (IsWholeMoment l.names) l.keys
