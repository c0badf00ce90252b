use Rattle.std.proofs.Common.{◌≡◌, ◌≤◌, List, drop, length}
use Rattle.law_explore_text.specs.law_explore.specs.Search.{round_of_states, Node}
use Rattle.lab_search.specs.Rounds.{round_in, tally_of, Ahead, AreCandidates, Depth, Holds}
use Rattle.lab_search.proofs.CourseLemmas.{states_left}
use Rattle.lab_search.proofs.rounds.Search.try_states.Given as goal

-- the tries of the later states come to what those of all states come to
abbrev pub invariant-loop-before : goal.invariant-loop-before
invariant-loop-before g l =
    (d : Depth) (ns : List Node) → Holds d l.fn.self ns → l.from ≤ l.to → l.to ≡ length ns → AreCandidates d.rules l.exploration.rules l.applications
    → Ahead d ns l.self (states_left d ns l.before) (round_of_states d.most d.rules (drop l.from ns) (round_in d (tally_of l.fn.self) ns))
