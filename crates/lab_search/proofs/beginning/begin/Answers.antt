use Rattle.std.proofs.Common.{List, ℕ, ap, map, rules, sym, subst, ◌∙◌}
use Rattle.law_explore_text.specs.law_explore.specs.Search.{first_state}
use Rattle.law_explore_text.specs.law_explore.specs.States.{first_play}
use Rattle.lab_branch.specs.Branches.{BranchState}
use Rattle.lab_key.specs.declared.state.CardState.{CardState}
use Rattle.lab_key.specs.Kept.{IsOfDevice}
use Rattle.lab_key.specs.KeptStates.{IsKeptState}
use Rattle.lab_rules.specs.Meanings.{IsOn}
use Rattle.lab_search.specs.Kept.{names_in}
use Rattle.lab_search.proofs.AlikeLemmas.{as_long}
use Rattle.lab_search.proofs.BeginLemmas.{first_kept, first_lead, shown_of_device}
use Rattle.lab_search.proofs.beginning.begin.Goals as goal

pub keep-requires : goal.keep-requires
keep-requires g c = (_, _, c.in_ok-budget.ensures.first.shows)

pub returns : goal.returns
returns g c =
    λ x h.
    let f = c.in_ok-budget.ensures.first in
    let device = c.play_deck.new.device in
    let ls = c.args.exploration.now.deck in
    let own = shown_of_device device.device.words c.in_ok-budget.live (first_play ls).base (first_play ls).live f.shows in
    let of = subst (λ (m : List (List ℕ)). IsOfDevice m (first_play ls).base) (sym c.in_ok-budget.ensures.root) own in
    let card = c.in_ok-card.ensures.of (first_play ls).base (first_play ls).live f.shows of in
    let amounts = c.in_ok-amounts.ensures ∙ ap (λ (a : List (List ℕ × ℕ)). map (λ e. e.1) a) h.rules.allowances in
    let first : CardState = record { card = c.in_ok-card.card; runs = c.runs-runs.result; allowances = c.in_ok-amounts.field-0 } in
    let kept = first_kept device.root device.device.words c.keep.new.self ls x first c.in_ok-budget.budget c.in_ok-budget.lead c.in_ok-budget.live h.deck f card c.runs-runs.ensures amounts in
    record {
      kept = subst (λ (root : List (List ℕ)). IsKeptState root c.in_ok-budget.budget (names_in x.rules) c.keep.new.self first (first_state x)) (sym (ap (λ (b : BranchState). b.root) c.in_ok-player.ensures ∙ c.return_to_root.ensures.root)) kept;
      counts = as_long (IsOn x.rules.allowances) c.args.exploration.now.rules.ons.items x.rules.ons _ h.rules.ons (search rules);
      lead = first_lead ls x device.device.words c.in_ok-budget.budget c.in_ok-budget.lead c.in_ok-budget.live h.deck f;
    }
