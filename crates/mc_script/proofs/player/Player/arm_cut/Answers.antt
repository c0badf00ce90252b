use Rattle.std.proofs.Common.{rules}
use Rattle.mc_script.proofs.QuietLemmas.{cut_done}
use Rattle.mc_script.proofs.player.Player.arm_cut.Goals as goal

pub returns-clause-done : goal.returns-clause-done
returns-clause-done g c = cut_done g.N.Nvm.state g.N.Bench.bench c.args.self.now c.args.k c.args.fill c.requires (search rules)
