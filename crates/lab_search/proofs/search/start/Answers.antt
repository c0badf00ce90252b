use Rattle.std.proofs.Common.{[], ◌∷◌, ◌≡◌, length, refl, rules}
use Rattle.law_explore_text.specs.law_explore.specs.Search.{first_state}
use Rattle.lab_search.specs.Rounds.{tally_of}
use Rattle.lab_search.proofs.StartLemmas.{ran_start}
use Rattle.lab_search.proofs.TallyLemmas.{start_tally}
use Rattle.lab_search.proofs.search.start.Goals as goal

pub returns : goal.returns
returns g c =
    λ x h.
    let b = c.in_ok-laboratory.ensures x h in
    let many : c.len-ons.result ≡ length c.args.exploration.now.rules.ons.items = search rules in
    let holds = c.in_ok-search.ensures.holds x.rules (first_state x) b.kept b.counts in
    let runs = c.runs.ensures (record { rules = x.rules; most = c.args.limit; from = 0 }) (record { state = first_state x; path = [] } ∷ []) (record { state = first_state x; path = [] }) (record { holds = holds; found = refl }) in
    record {
      holds = holds;
      tally = start_tally x.rules c.args.exploration.now.rules (tally_of c.in_ok-search.search) _ h.rules many c.in_ok-search.ensures.none;
      start = record { lead = b.lead; ran = ran_start x c.ran_before-ran.result c.runs.result _ c.ran_before-ran.ensures runs b.lead.power };
    }
