use Rattle.std.proofs.Common.{◌≤◌, List, ◌∷◌}
use Rattle.std.specs.Prelude.{vec_len}
use Rattle.law_explore_text.specs.law_explore.specs.Search.{Node}
use Rattle.law_explore_text.specs.law_explore.specs.Tries.{Try}
use Rattle.lab_search.specs.Rounds.{Depth, IsFrom, IsTry}
use Rattle.lab_search.proofs.PathLemmas.{Walked}
use Rattle.lab_search.proofs.rounds.Search.path.Given as goal

-- there is a step to the state at the place, and the steps from there on are the last of the tries
abbrev pub invariant-loop-at : goal.invariant-loop-at
invariant-loop-at l =
    record {
      within : l.at ≤ vec_len l.self.last_steps;
      walked : (d : Depth) (ns : List Node) (n : Node) (t : Try) → IsFrom d l.self ns n l.fn.last.before → IsTry d.rules.moves l.fn.last t → Walked d.rules.moves ns l.path.items l.at (t ∷ n.path);
    }

abbrev pub decreases-loop-at : goal.decreases-loop-at
decreases-loop-at l = l.at
