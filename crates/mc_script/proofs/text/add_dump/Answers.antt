use Rattle.mc_script.proofs.LineLemmas.{player_ready}
use Rattle.mc_script.proofs.text.add_dump.Goals as goal

pub add_static-requires-clause-up : goal.add_static-requires-clause-up
add_static-requires-clause-up g c = (player_ready g.N.Nvm.state g.N.Bench.bench c.args.player.now c.requires.playing.0 c.requires.playing.1 c.in-On.is).up
