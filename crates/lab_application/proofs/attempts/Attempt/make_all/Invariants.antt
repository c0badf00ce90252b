use Rattle.std.proofs.Common.{◌≡◌, ◌+◌, ◌-◌, ◌<◌, ◌≤◌, true, List, length}
use Rattle.law_histories.specs.model_play.specs.Family.{is_running}
use Rattle.law_histories.specs.law_explore.specs.Rules as rule
use Rattle.law_histories.specs.law_explore.specs.States.{play_of}
use Rattle.law_histories.specs.law_explore.specs.Tries.{writes_of}
use Rattle.law_histories.specs.law_explore.specs.Search.{Node}
use Rattle.lab_search.specs.Kept.{names_in}
use Rattle.lab_search.specs.Rounds.{Depth, TriesMove}
use Rattle.lab_application.specs.Finding.{AreKeptWith, IsSameSearch}
use Rattle.lab_application.proofs.attempts.Attempt.make_all.Given as goal

-- the next cut has a number, and each try so far hit a write and reached a state that is kept
abbrev pub invariant-writes : goal.invariant-writes
invariant-writes g l =
    record {
      same : IsSameSearch l.fn.search l.search;
      counted : l.made + 1 < 4294967296;
      count : length l.all.items ≡ l.made;
      kept : (d : Depth) (ns : List Node) (n : Node) (m : rule.Move) → TriesMove d l.fn.search ns n m l.self.candidate.now l.self.before l.self.chosen → is_running n.state.live ≡ true → AreKeptWith l.search (names_in d.rules) l.all.items × (l.made ≤ writes_of (play_of n.state) m);
    }

abbrev pub decreases-writes : goal.decreases-writes
decreases-writes g l = 4294967295 - l.made
