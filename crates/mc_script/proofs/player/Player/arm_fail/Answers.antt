use Rattle.mc_script.proofs.QuietLemmas.{fail_done}
use Rattle.mc_script.proofs.player.Player.arm_fail.Goals as goal

pub returns-clause-done : goal.returns-clause-done
returns-clause-done g c = fail_done g.N.Nvm.state g.N.Bench.bench c.args.self.now c.args.k c.requires
