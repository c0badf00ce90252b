use Rattle.std.proofs.Common.{◌≡◌, ◌≤◌, ◌+◌, length, false, []}
use Rattle.model_play.specs.model_text.specs.Text.{lines, with_numbers}
use Rattle.model_play.specs.DeckGrammar.{Context, Between, deck_lines}
use Rattle.mc_deck.specs.Readers.{lines_of, mode_of, StandsForContext}
use Rattle.mc_deck.proofs.TurnLemmas.{left_lines}
use Rattle.mc_deck.proofs.reading.read_deck.Given as goal

-- the reader has a context, and the lines that are left make the deck of it
abbrev pub invariant-loop-line : goal.invariant-loop-line
invariant-loop-line l = record {
  leads : (c : Context) × StandsForContext l.reader c × (left_lines (lines_of l.reader) (mode_of l.section c) (l.number + 1) l.rest ≡ deck_lines (Between (record { units = []; powered = false })) (with_numbers 1 (lines l.fn.text)));
  few : l.number ≤ 20000;
}

abbrev pub decreases-loop-line : goal.decreases-loop-line
decreases-loop-line l = length l.rest
