-- A table of sums that is closed, from its parts.
use Rattle.std.proofs.Common.{◌≡◌, true, ◌&&◌, List, sym, subst}
use Rattle.std.specs.Prelude.{◌+◌, nat_le}
use Rattle.std.proofs.lemmas.Bool.{and_from, and_parts}
use Rattle.prove_facts.specs.model_rules.specs.Keeping.{Amounts, are_totals, first_sums}
use Rattle.prove_facts.specs.model_rules.specs.Rules.{AppRules}
use Rattle.prove_facts.specs.model_prove.specs.Arrivals.{Setting, static_size}
use Rattle.prove_facts.specs.model_prove.specs.Between.{Class, classes}
use Rattle.prove_facts.specs.model_prove.specs.Keys.{Tables}
use Rattle.prove_sums.specs.model_sums.specs.Closed.{all_pass, is_sum, places_closed, starts_closed, sums_closed}
use Rattle.prove_sums.specs.model_sums.specs.Sums.{SumsTable}
use Rattle.lab_app_rules.specs.declared.rules.Rules.{Rules}
use Rattle.lab_app_rules.specs.Sums.{AreSums}
use Rattle.prove_sum_steps.proofs.TotalLemmas.{lines_move}

-- each line moves a sum that there is
pub moves_are : (a : AppRules) (r : Rules) → AreSums a r → all_pass (λ l. is_sum a.sums l.name) a.moves ≡ true
moves_are a r are =
    subst (λ (x : Amounts). all_pass (λ l. is_sum x l.name) a.moves ≡ true) (sym are.sums) (lines_move r.sums.items a.moves r.ons.items are.lines)

-- the parts of a closed table
pub closed_from : (s : Setting) (t : Tables) (u : SumsTable) (cs : List Class)
    → all_pass (λ l. is_sum s.rules.sums l.name) s.rules.moves ≡ true
    → (all_pass (λ t. nat_le (t.at + t.n) (static_size s)) s.rules.totals && are_totals s.app.fixed (first_sums s.rules.sums) s.rules.totals) ≡ true
    → cs ≡ classes s.rules → starts_closed s cs u t.moments ≡ true → places_closed s u t.places ≡ true → sums_closed s t u ≡ true
unfolding sums_closed
closed_from s t u cs moves totals same starts places =
    let p = and_parts (all_pass (λ t. nat_le (t.at + t.n) (static_size s)) s.rules.totals) (are_totals s.app.fixed (first_sums s.rules.sums) s.rules.totals) totals in
    and_from _ _
    (and_from _ _ (and_from _ _ (and_from _ _ moves p.0) p.1) (subst (λ (cs : List Class). starts_closed s cs u t.moments ≡ true) same starts))
    places
