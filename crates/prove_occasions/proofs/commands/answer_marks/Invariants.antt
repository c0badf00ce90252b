use Rattle.std.proofs.Common.{◌≡◌, ◌++◌, drop}
use Rattle.prove_occasions.specs.Picks.{answer_marks}
use Rattle.prove_occasions.proofs.commands.answer_marks.Given as goal

-- the marks so far, and those of the lines that are left, are all
abbrev pub invariant-loop-on : goal.invariant-loop-on
invariant-loop-on l = l.marks.items ++ answer_marks (drop l.on-index l.ons) l.rest l.left ≡ answer_marks l.fn.ons l.fn.class l.fn.results
