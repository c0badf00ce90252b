use Rattle.std.proofs.Common.{◌≡◌, drop}
use Rattle.mc_lab.specs.Sweeps.{has_between}
use Rattle.mc_lab.proofs.sweep_marks.has_between.Given as goal

-- it is among the rest, or nowhere
abbrev pub invariant-loop-word : goal.invariant-loop-word
invariant-loop-word l = has_between (drop l.word-index l.words) ≡ has_between l.words
