use Rattle.std.proofs.Common.{◌+◌, ◌≤◌, length}
use Rattle.law_histories.specs.model_text.specs.Text.{lines}
use Rattle.lab_deck.specs.Moves.{moves_read}
use Rattle.lab_deck.proofs.MoveLemmas.{MovesLeft}
use Rattle.lab_deck.proofs.moves.read_moves.Given as goal

-- the moves so far, with those of the lines that are left, are all
abbrev pub invariant-loop-line : goal.invariant-loop-line
invariant-loop-line l = record {
  left : MovesLeft l.rules l.inside (l.number + 1) l.rest (moves_read l.fn.text);
  few : l.number + length (lines l.rest) ≤ 20000;
}

abbrev pub decreases-loop-line : goal.decreases-loop-line
decreases-loop-line l = length l.rest
