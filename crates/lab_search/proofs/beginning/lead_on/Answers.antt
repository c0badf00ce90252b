use Rattle.std.proofs.Common.{ℕ, sym, subst}
use Rattle.law_explore_text.specs.law_explore.specs.States.{play_of_deck}
use Rattle.mc_script.specs.Players.{device_of}
use Rattle.lab_search.specs.declared.beginning.Lead.{Lead}
use Rattle.lab_search.specs.Beginnings.{without_stop, IsFirst}
use Rattle.lab_search.proofs.BeginLemmas.{first_settled, is_first, stopped_unarmed}
use Rattle.lab_search.proofs.beginning.lead_on.Goals as goal

pub returns-clause-first : goal.returns-clause-first
returns-clause-first g c =
    λ ls at steady.
    let s = play_of_deck ls in
    let q = c.power_up.new.player in
    let words = (g.N.Nvm.state (device_of q)).words in
    let lead : Lead = record { armed = c.drop_stop-armed.result; power = c.in_ok-power.power } in
    subst (λ (n : ℕ). IsFirst ls words n lead c.in_ok-power.live) (sym c.of.ensures)
    (is_first ls words c.drop_stop-armed.result c.in_ok-power.power c.in_ok-power.live q.budget (c.drop_stop-armed.ensures.armed s at)
    (c.in_ok-power.ensures.powered (without_stop s) (c.drop_stop-armed.ensures.at s at steady) (c.drop_stop-armed.ensures.steady steady) (stopped_unarmed s) (first_settled ls)))
