use Rattle.std.proofs.Common.{Option, refl, sym, subst}
use Rattle.law_explore.specs.model_play.specs.Play.{start}
use Rattle.mc_script.specs.Players.{device_of}
use Rattle.mc_lab.specs.SweepFronts.{IsKeptAt}
use Rattle.mc_lab.specs.declared.sweep_front.Kept.{Kept}
use Rattle.mc_lab.proofs.SweepFrontLemmas.{new_at, resumed_at}
use Rattle.mc_lab.proofs.sweep_front.resume.Goals as goal

pub returns-in-None-clause-at : goal.returns-in-None-clause-at
returns-in-None-clause-at g c s h =
    let m = (g.N.Nvm.state c.args.device).words in
    new_at g.N.Nvm.state g.N.Bench.bench c.args.device c.new-player.result s c.new-player.ensures.at c.new-player.ensures.device c.requires.steady (subst (λ (o : Option Kept). IsKeptAt m o s) c.in-None.is h)

pub returns-in-None-clause-keeps_device : goal.returns-in-None-clause-keeps_device
returns-in-None-clause-keeps_device g c = subst (λ (d : _). g.N.Nvm.same c.args.device d) (sym c.new-player.ensures.device) (g.met.N.Nvm.itself c.args.device)

pub put_back-requires : goal.put_back-requires
put_back-requires g c =
    let m = (g.N.Nvm.state c.args.device).words in
    let h = subst (λ (o : Option Kept). IsKeptAt m o c.requires.kept.0) c.in-Some.is c.requires.kept.1 in
    record { start = (m, h.0, new_at g.N.Nvm.state g.N.Bench.bench c.args.device c.new-player.result (start m) c.new-player.ensures.at c.new-player.ensures.device c.requires.steady refl, h.2) }

pub returns-in-Some-clause-at : goal.returns-in-Some-clause-at
returns-in-Some-clause-at g c s h =
    let m = (g.N.Nvm.state c.args.device).words in
    let at = new_at g.N.Nvm.state g.N.Bench.bench c.args.device c.new-player.result (start m) c.new-player.ensures.at c.new-player.ensures.device c.requires.steady refl in
    resumed_at g.N.Nvm.state g.N.Bench.bench c.put_back.new.player m _ s (subst (λ (o : Option Kept). IsKeptAt m o s) c.in-Some.is h) (λ w shows. c.put_back.ensures.at m w at shows)

pub returns-in-Some-clause-keeps_device : goal.returns-in-Some-clause-keeps_device
returns-in-Some-clause-keeps_device g c = subst (λ (d : _). g.N.Nvm.same d (device_of c.put_back.new.player)) c.new-player.ensures.device c.put_back.ensures.keeps_device
