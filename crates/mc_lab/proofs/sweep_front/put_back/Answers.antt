use Rattle.std.proofs.Common.{sym, subst}
use Rattle.law_explore.specs.model_play.specs.Play.{start}
use Rattle.mc_script.specs.Players.{device_of}
use Rattle.mc_lab.proofs.SweepFrontLemmas.{budget_set, fits_kept, put_back_at}
use Rattle.mc_lab.proofs.sweep_front.put_back.Goals as goal

pub play_line-set-requires-clause-playing : goal.play_line-set-requires-clause-playing
play_line-set-requires-clause-playing g c = (_, c.requires.start.2.at)

pub play_line-set-requires-clause-good : goal.play_line-set-requires-clause-good
play_line-set-requires-clause-good g c = (c.requires.start.3.some, c.requires.start.3.most)

pub put_live-requires-clause-fits : goal.put_live-requires-clause-fits
put_live-requires-clause-fits g c =
    let state = g.N.Nvm.state in
    let bench = g.N.Bench.bench in
    let k = c.args.kept.now in
    let m = c.requires.start.0 in
    let shows = c.requires.start.3 in
    let set = budget_set state bench c.play_line-set.new.player m k.budget c.play_line-set.result (c.play_line-set.ensures.on (start m) 0 c.requires.start.2) in
    let up = c.power_up.ensures.up m k.budget shows.card set shows.holds shows.layout in
    fits_kept state bench c.power_up.new.player m k c.requires.start.1 up.words shows

pub returns-clause-at : goal.returns-clause-at
returns-clause-at g c m w at shows =
    let state = g.N.Nvm.state in
    let bench = g.N.Bench.bench in
    let k = c.args.kept.now in
    let set = budget_set state bench c.play_line-set.new.player m k.budget c.play_line-set.result (c.play_line-set.ensures.on (start m) 0 at) in
    let up = c.power_up.ensures.up m k.budget shows.card set shows.holds shows.layout in
    put_back_at state bench c.power_up.new.player c.put_live.new.self m k w shows up c.put_live.ensures.device c.put_live.ensures.at

pub returns-clause-keeps_device : goal.returns-clause-keeps_device
returns-clause-keeps_device g c =
    subst (λ (d : _). g.N.Nvm.same (device_of c.args.player.now) d) (sym c.put_live.ensures.device) (g.met.N.Nvm.onward _ _ _ c.play_line-set.ensures.keeps_device c.power_up.ensures.keeps_device)
