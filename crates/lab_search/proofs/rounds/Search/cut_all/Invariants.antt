use Rattle.std.proofs.Common.{◌≡◌, ◌+◌, ◌-◌, ◌<◌, true, List}
use Rattle.law_explore_text.specs.model_play.specs.Family.{is_running}
use Rattle.law_explore_text.specs.law_explore.specs.Rules as rule
use Rattle.law_explore_text.specs.law_explore.specs.States.{play_of}
use Rattle.law_explore_text.specs.law_explore.specs.Tries.{cuts_from, writes_of}
use Rattle.law_explore_text.specs.law_explore.specs.Search.{Node}
use Rattle.lab_search.specs.Rounds.{round_in, tally_of, tries_from, tries_in, Ahead, Depth, TriesMove}
use Rattle.lab_search.proofs.rounds.Search.cut_all.Given as goal

-- the next cut has a number, and the cuts of the later writes come to what all cuts come to
abbrev pub invariant-writes : goal.invariant-writes
invariant-writes g l =
    record {
      counted : l.made + 1 < 4294967296;
      ahead : (d : Depth) (ns : List Node) (n : Node) (m : rule.Move) → TriesMove d l.fn.self ns n m l.candidate l.before l.chosen → is_running n.state.live ≡ true
          → Ahead d ns l.self (λ r. tries_from d n (tries_in m (cuts_from (l.made + 1) (writes_of (play_of n.state) m - l.made))) r)
          (tries_from d n (tries_in m (cuts_from 1 (writes_of (play_of n.state) m))) (round_in d (tally_of l.fn.self) ns));
    }

abbrev pub decreases-writes : goal.decreases-writes
decreases-writes g l = 4294967295 - l.made
