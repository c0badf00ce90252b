use Rattle.std.proofs.Common.{List}
use Rattle.law_explore_text.specs.law_explore.specs.Tries.{tries_of}
use Rattle.law_explore_text.specs.law_explore.specs.Search.{Node}
use Rattle.lab_search.specs.Rounds.{round_in, tally_of, tries_from, Ahead, AreCandidates, Depth, IsFrom}
use Rattle.lab_search.proofs.CourseLemmas.{moves_left}
use Rattle.lab_search.proofs.rounds.Search.try_moves.Given as goal

-- the tries of the later moves come to what those of all moves come to
abbrev pub invariant-loop-chosen : goal.invariant-loop-chosen
invariant-loop-chosen g l =
    (d : Depth) (ns : List Node) (n : Node) → IsFrom d l.fn.self ns n l.before → AreCandidates d.rules l.exploration.rules l.applications
    → Ahead d ns l.self (moves_left d n l.chosen) (tries_from d n (tries_of d.rules.moves n.state) (round_in d (tally_of l.fn.self) ns))
