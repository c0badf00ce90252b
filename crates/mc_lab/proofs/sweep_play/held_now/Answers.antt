use Rattle.std.proofs.Common.{rules}
use Rattle.mc_script.specs.Players.{statics_in}
use Rattle.mc_lab.proofs.SweepPlayers.{held_is_statics}
use Rattle.mc_lab.proofs.sweep_play.held_now.Goals as goal

pub returns : goal.returns
returns g c =
    held_is_statics (statics_in g.N.Nvm.state c.args.player.now c.args.name.now) c.in_ok-len.len _ c.kept.result.items c.static_of.new.into (search rules) c.static_of.ensures (search rules) (search rules)
