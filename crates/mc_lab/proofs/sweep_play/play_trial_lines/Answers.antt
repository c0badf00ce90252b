use Rattle.std.proofs.Common.{true, refl, sym, subst}
use Rattle.mc_deck.specs.Lines.{line_of}
use Rattle.mc_lab.specs.SweepPlayers.{TrialOn}
use Rattle.mc_lab.specs.declared.sweep_trial.TrialLines.{TrialLines}
use Rattle.mc_lab.proofs.SweepPlayers.{whole_on, cut_behind}
use Rattle.mc_lab.proofs.sweep_play.play_trial_lines.Goals as goal

pub returns-in-Whole-clause-on : goal.returns-in-Whole-clause-on
returns-in-Whole-clause-on g c front n h =
    let state = g.N.Nvm.state in
    let bench = g.N.Bench.bench in
    let l = line_of c.args.line.now in
    let p = c.play_line-answer in
    subst (λ (b : TrialLines). TrialOn state bench front (n, l) b true p.new.player) (sym c.in-Whole.is) (whole_on state bench p.new.player l p.result c.args.player.now true refl p.ensures.on front n h)

pub returns-in-Cut-clause-on : goal.returns-in-Cut-clause-on
returns-in-Cut-clause-on g c front n h =
    let state = g.N.Nvm.state in
    let bench = g.N.Bench.bench in
    let l = line_of c.args.line.now in
    let p = c.play_cut in
    subst (λ (b : TrialLines). TrialOn state bench front (n, l) b p.result p.new.player) (sym c.in-Cut.is) (cut_behind state bench c.args.player.now p.new.player l c.in-Cut.k c.in-Cut.fill p.result p.ensures.on front n h)

pub returns-in-Twice-clause-on : goal.returns-in-Twice-clause-on
returns-in-Twice-clause-on g c front n h =
    let state = g.N.Nvm.state in
    let bench = g.N.Bench.bench in
    let l = line_of c.args.line.now in
    let p = c.play_twice in
    subst (λ (b : TrialLines). TrialOn state bench front (n, l) b p.result p.new.player) (sym c.in-Twice.is) (p.ensures.on front n h)
