use Rattle.std.proofs.Common.{◌≡◌}
use Rattle.mc_card.specs.Parts.{device_in}
use Rattle.mc_script.proofs.WatchLemmas.{RunLeads}
use Rattle.desk_cover.specs.Known.{Knows}
use Rattle.desk_cover.proofs.following.run_followed.Given as goal

-- A run with the budget that is left makes the run with the whole budget, and what is known fits the card.
abbrev pub invariant-turns : goal.invariant-turns
invariant-turns g l =
    record {
      leads : RunLeads g.N.Nvm.state g.N.Nvm.wrote g.met.N.Nvm.obeys g.W.Follower.seen g.W.Follower.watched g.met.W.Follower.onward l.fn.card l.bytes l.budget l.fn.follower l.fn.steps l.left l.card l.follower l.steps;
      keeps_device : g.N.Nvm.same (device_in l.fn.card) (device_in l.card);
      sources : g.W.Follower.sources l.follower ≡ l.sections;
      known : Knows g.N.Nvm.state l.card l.sections l.known;
    }

abbrev pub decreases-turns : goal.decreases-turns
decreases-turns g l = l.left
