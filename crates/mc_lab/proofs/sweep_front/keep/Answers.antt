use Rattle.std.proofs.Common.{◌≡◌, ◌∙◌, false, rules, sym}
use Rattle.mc_lab.proofs.SweepFrontLemmas.{if_some, kept_at}
use Rattle.mc_lab.proofs.sweep_front.keep.Goals as goal

pub returns-in-Ok : goal.returns-in-Ok
returns-in-Ok g c =
    let none : c.is_armed.result ≡ false = search rules in
    if_some c.kept_card.result _ _ (λ k h s at.
    kept_at g.N.Nvm.state g.N.Bench.bench c.args.player.now c.in-Ok.live c.budget-budget.result k s h.0 h.1 at.at (c.in-Ok.ensures.shows s at.at) c.budget-budget.ensures.budget (sym c.is_armed.ensures ∙ none)) c.kept_card.ensures
