use Rattle.std.proofs.Common.{◌≡◌, true, List, ℕ, sym, subst}
use Rattle.law_explore_text.specs.model_device.specs.Device.{blank_words, device_words}
use Rattle.law_explore_text.specs.model_play.specs.Play.{start, State}
use Rattle.mc_script.specs.Players.{IsPlayerAt}
use Rattle.lab_search.specs.Beginnings.{IsFirst}
use Rattle.lab_search.proofs.CourseLemmas.{if_ok}
use Rattle.lab_search.proofs.BeginLemmas.{deck_is}
use Rattle.lab_search.proofs.beginning.play_on.Goals as goal

pub returns-clause-first : goal.returns-clause-first
returns-clause-first g c =
    let state = g.N.Nvm.state in
    let bench = g.N.Bench.bench in
    let deck = c.args.deck.now in
    let s = start (blank_words device_words) in
    let at_start = subst (λ (m : List (List ℕ)). IsPlayerAt state bench c.new-player.result (start m)) c.requires.blank c.new-player.ensures.at in
    let steady = subst (λ d. (bench d).steady ≡ true) (sym c.new-player.ensures.device) c.requires.steady in
    let at = subst (λ (z : State). IsPlayerAt state bench c.play_all.new.player z) (sym (deck_is deck)) (c.play_all.ensures.at s at_start steady) in
    if_ok _ _ c.lead_on-first.result (λ r h. subst (λ d. IsFirst deck (state d).words r.0 r.1 r.2) (sym c.into_dev.ensures) (h deck at (c.play_all.ensures.steady s at_start steady))) c.lead_on-first.ensures.first
