use Rattle.mc_card.specs.Parts.{device_in}
use Rattle.mc_script.proofs.PowerUpLemmas.{handed_power, restart_ready, restart_failed}
use Rattle.mc_script.proofs.player.Player.power_line.Goals as goal

pub returns-in-Ok-clause-done : goal.returns-in-Ok-clause-done
returns-in-Ok-clause-done g c =
    let state = g.N.Nvm.state in
    let bench = g.N.Bench.bench in
    let p = c.args.self.now in
    let d = device_in p.card in
    let e = device_in c.power.new.self in
    let u = device_in c.arm.new.card in
    restart_ready state bench g.N.Nvm.wrote g.met.N.Nvm.obeys g.met.N.Bench.burns g.met.N.Nvm.fits p u c.restart-up.new.self c.disarm.new.self c.restart-up.result c.in-Ok.writes c.in-Ok.is c.len-size.ensures.image
    (handed_power p.armed (state d) (state e) (state u) (bench d) (bench e) (bench u) c.power.ensures.state c.power.ensures.bench c.arm.ensures.state c.arm.ensures.bench)
    c.restart-up.ensures.makes c.restart-up.ensures.ends c.restart-up.ensures.ready c.restart-up.ensures.session_state c.disarm.ensures.state c.disarm.ensures.bench c.disarm.ensures.rest

pub returns-in-Err-clause-done : goal.returns-in-Err-clause-done
returns-in-Err-clause-done g c =
    let state = g.N.Nvm.state in
    let bench = g.N.Bench.bench in
    let p = c.args.self.now in
    let d = device_in p.card in
    let e = device_in c.power.new.self in
    let u = device_in c.arm.new.card in
    restart_failed state bench g.N.Nvm.wrote g.met.N.Nvm.obeys g.met.N.Bench.burns g.met.N.Nvm.fits p u c.restart-up.new.self c.disarm.new.self c.restart-up.result c.in-Err.up c.power_after_failure-self.result c.answer_after_failure.result c.in-Err.is
    c.len-size.ensures.image (handed_power p.armed (state d) (state e) (state u) (bench d) (bench e) (bench u) c.power.ensures.state c.power.ensures.bench c.arm.ensures.state c.arm.ensures.bench)
    c.restart-up.ensures.makes c.restart-up.ensures.ends c.disarm.ensures.state c.disarm.ensures.bench c.power_after_failure-self.ensures c.answer_after_failure.ensures
