use Rattle.std.proofs.Common.{List}
use Rattle.law_histories.specs.law_explore.specs.Search.{Node}
use Rattle.lab_search.specs.Rounds.{Depth, IsFrom}
use Rattle.lab_application.specs.Finding.{HoldsMore}
use Rattle.lab_application.specs.Shadows.{AreShadows}
use Rattle.lab_application.proofs.rounds.try_moves.Given as goal

-- the search goes on
abbrev pub invariant-loop-chosen : goal.invariant-loop-chosen
invariant-loop-chosen g l = (d : Depth) (ns : List Node) (n : Node) → IsFrom d l.fn.search ns n l.before → AreShadows l.moves.rules d.rules → HoldsMore d ns l.search
