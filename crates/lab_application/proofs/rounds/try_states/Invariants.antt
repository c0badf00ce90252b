use Rattle.std.proofs.Common.{◌≡◌, ◌≤◌, List, length}
use Rattle.law_histories.specs.law_explore.specs.Search.{Node}
use Rattle.lab_search.specs.Rounds.{Depth, Holds}
use Rattle.lab_application.specs.Finding.{HoldsMore}
use Rattle.lab_application.specs.Shadows.{AreShadows}
use Rattle.lab_application.proofs.rounds.try_states.Given as goal

-- the search goes on
abbrev pub invariant-loop-before : goal.invariant-loop-before
invariant-loop-before g l = (d : Depth) (ns : List Node) → Holds d l.fn.search ns → l.from ≤ l.to → l.to ≡ length ns → AreShadows l.moves.rules d.rules → HoldsMore d ns l.search
