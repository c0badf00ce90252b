use Rattle.mc_script.proofs.LineLemmas.{player_ready}
use Rattle.mc_script.proofs.player.Player.card.Goals as goal

pub returns-in-On : goal.returns-in-On
returns-in-On g c = player_ready g.N.Nvm.state g.N.Bench.bench c.args.self.now c.requires.0 c.requires.1 c.in-On.is
