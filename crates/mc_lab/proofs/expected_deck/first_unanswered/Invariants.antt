use Rattle.std.proofs.Common.{◌≡◌, ℕ, drop}
use Rattle.mc_lab.specs.Remarked.{remark_number, remark_values}
use Rattle.mc_lab.specs.Rising.{count_below, Rising}
use Rattle.mc_lab.specs.Expectations.{first_unanswered, line_number}
use Rattle.mc_lab.proofs.expected_deck.first_unanswered.Given as goal

-- `count` lines are above some number, and no expectation that is left is below it
abbrev pub invariant-loop-expectation : goal.invariant-loop-expectation
invariant-loop-expectation l = record {
  above : (m : ℕ) × (l.count ≡ count_below line_number m l.deck) × Rising remark_number m (drop l.expectation-index (remark_values l.expectations));
  left : first_unanswered l.deck (drop l.expectation-index (remark_values l.expectations)) ≡ first_unanswered l.deck (remark_values l.expectations);
}
