use Rattle.std.proofs.Common.{refl, arith}
use Rattle.model_play.specs.Play.{start}
use Rattle.mc_script.specs.Players.{device_of}
use Rattle.mc_script.proofs.player.Player.rewind.Goals as goal

pub returns-clause-playing : goal.returns-clause-playing
returns-clause-playing g c = (
  start (g.N.Nvm.state (device_of c.args.self.now)).words,
  record { stands = (refl, refl); budget = refl; armed = refl; some = omega arith; most = omega arith; can_arm = tt; unfused = c.requires },
)
