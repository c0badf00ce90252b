use Rattle.std.proofs.Common.{◌≡◌, ◌++◌, drop}
use Rattle.prove_occasions.specs.Picks.{result_marks}
use Rattle.prove_occasions.proofs.commands.result_marks.Given as goal

-- the marks so far, and those of the lines that are left, are all
abbrev pub invariant-loop-on : goal.invariant-loop-on
invariant-loop-on l = l.marks.items ++ result_marks l.text (drop l.on-index l.ons) ≡ result_marks l.fn.text l.fn.ons
