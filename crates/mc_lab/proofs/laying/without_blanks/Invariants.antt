use Rattle.std.proofs.Common.{◌≡◌, ◌≤◌, ◌++◌, drop}
use Rattle.arrayvec.specs.ArrayVec.{array_vec_len}
use Rattle.law_explore.specs.model_events.specs.Patterns.{without_blanks}
use Rattle.mc_lab.proofs.laying.without_blanks.Given as goal

-- the characters that were kept, and those of the rest
abbrev pub invariant-loop-character : goal.invariant-loop-character
invariant-loop-character l = record {
  same : l.kept.items ++ without_blanks (drop l.character-index l.text) ≡ without_blanks l.text;
  few : array_vec_len l.kept ≤ l.character-index;
}
