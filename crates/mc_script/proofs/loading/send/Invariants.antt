use Rattle.std.proofs.Common.{◌+◌, [], length}
use Rattle.mc_card.specs.Parts.{device_in, card_in}
use Rattle.mc_script.specs.Runs.{sent_to}
use Rattle.mc_script.specs.StepCounts.{first_search}
use Rattle.mc_script.proofs.SendLemmas.{Sends}
use Rattle.mc_script.proofs.StepRunLemmas.{SearchesLeft}
use Rattle.mc_script.proofs.loading.send.Given as goal

-- the commands that are left, sent from here, make up all commands sent from the start
abbrev pub invariant-loop-bytes : goal.invariant-loop-bytes
invariant-loop-bytes g l =
    record {
      sends : Sends g.N.Nvm.state g.N.Nvm.wrote g.met.N.Nvm.obeys (g.R.Runner.reported (sent_to g.N.Nvm.state l.fn.card [] l.budget)) (g.met.R.Runner.silent (sent_to g.N.Nvm.state l.fn.card [] l.budget)) (g.met.R.Runner.onward (sent_to g.N.Nvm.state l.fn.card [] l.budget) (sent_to g.N.Nvm.state l.fn.card [] l.budget)) l.fn.card l.budget l.fn.commands l.fn.runner l.commands l.card l.runner;
      steps : SearchesLeft (card_in g.N.Nvm.state l.card) l.commands l.fn.steps l.steps (l.fn.steps + first_search (card_in g.N.Nvm.state l.fn.card) l.fn.commands);
      keeps_device : g.N.Nvm.same (device_in l.fn.card) (device_in l.card);
    }

abbrev pub decreases-loop-bytes : goal.decreases-loop-bytes
decreases-loop-bytes g l = length l.commands
