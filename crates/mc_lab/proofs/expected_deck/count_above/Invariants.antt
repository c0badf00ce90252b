use Rattle.std.proofs.Common.{◌≡◌, ◌+◌, ◌-◌, drop, length}
use Rattle.mc_lab.specs.Rising.{count_below}
use Rattle.mc_lab.specs.Expectations.{line_number}
use Rattle.mc_lab.proofs.expected_deck.count_above.Given as goal

-- the counted lines and the rest are all
abbrev pub invariant-loop-count : goal.invariant-loop-count
invariant-loop-count l = l.count + count_below line_number l.number (drop l.count l.deck) ≡ count_below line_number l.number l.deck

abbrev pub decreases-loop-count : goal.decreases-loop-count
decreases-loop-count l = length l.deck - l.count
