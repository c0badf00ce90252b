use Rattle.mc_script.proofs.QuietLemmas.{budget_done}
use Rattle.mc_script.proofs.player.Player.set_budget.Goals as goal

pub returns-clause-done : goal.returns-clause-done
returns-clause-done g c = budget_done g.N.Nvm.state g.N.Bench.bench c.args.self.now c.args.budget c.requires.some c.requires.most
