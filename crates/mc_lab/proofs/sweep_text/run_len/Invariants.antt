use Rattle.std.proofs.Common.{length, ◌-◌, ◌≤◌, get_or}
use Rattle.mc_lab.specs.declared.sweep_word.SweepWord.TheVariants.{Before}
use Rattle.mc_lab.proofs.SweepTexts.{Fronts}
use Rattle.mc_lab.proofs.sweep_text.run_len.Given as goal

-- the words up to here are equal to the first one
abbrev pub invariant-loop-len : goal.invariant-loop-len
invariant-loop-len l =
    record {
      low : 1 ≤ l.len;
      high : l.len ≤ length l.words;
      same : Fronts l.words l.len (get_or l.words 0 Before);
    }

abbrev pub decreases-loop-len : goal.decreases-loop-len
decreases-loop-len l = length l.words - l.len
