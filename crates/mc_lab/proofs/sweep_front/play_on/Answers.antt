use Rattle.std.proofs.Common.{Some, sym, subst, take}
use Rattle.mc_lab.specs.Sweeps.{state_on_blank}
use Rattle.mc_lab.specs.SweepFronts.{IsKeptAt}
use Rattle.mc_lab.proofs.SweepFrontLemmas.{if_some}
use Rattle.mc_lab.proofs.sweep_front.play_on.Goals as goal

pub keep-next-requires : goal.keep-next-requires
keep-next-requires g c = (_, c.play_front-player.ensures.at.at)

pub returns-clause-kept : goal.returns-clause-kept
returns-clause-kept g c =
    let s = state_on_blank (take c.args.to c.args.deck.now) in
    if_some c.keep-next.result _ _ (λ k h. subst (λ (d : _). IsKeptAt (g.N.Nvm.state d).words (Some k) s) (sym c.into_dev.ensures) (h s c.play_front-player.ensures.at)) c.keep-next.ensures
