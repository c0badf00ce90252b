use Rattle.mc_card.specs.Parts.{device_in}
use Rattle.mc_script.proofs.WatchLemmas.{RunLeads}
use Rattle.mc_script.proofs.watching.run_watched.Given as goal

-- a run with the budget that is left makes the run with the whole budget
abbrev pub invariant-turns : goal.invariant-turns
invariant-turns g l =
    record {
      leads : RunLeads g.N.Nvm.state g.N.Nvm.wrote g.met.N.Nvm.obeys g.W.Watcher.seen g.W.Watcher.watched g.met.W.Watcher.onward l.fn.card l.bytes l.budget l.fn.watcher l.fn.steps l.left l.card l.watcher l.steps;
      keeps_device : g.N.Nvm.same (device_in l.fn.card) (device_in l.card);
    }

abbrev pub decreases-turns : goal.decreases-turns
decreases-turns g l = l.left
