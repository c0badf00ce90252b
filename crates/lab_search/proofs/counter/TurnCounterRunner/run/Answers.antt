use Rattle.mc_card.specs.Ends.{outcome_or_stop}
use Rattle.mc_script.proofs.AloneLemmas.{alone_ran}
use Rattle.lab_search.specs.Counters.{CountsTurns}
use Rattle.lab_search.proofs.counter.TurnCounterRunner.run.Goals as goal

pub returns-clause-done : goal.returns-clause-done
returns-clause-done g c =
    alone_ran g.N.Nvm.state g.N.Nvm.wrote CountsTurns (outcome_or_stop c.run_watched.result c.run_watched.new.into) c.args.card.now c.run_watched.new.card c.args.bytes.now c.args.budget c.args.self.now c.run_watched.new.watcher c.run_watched.ensures.done
