use Rattle.std.proofs.Common.{◌≡◌, ◌∙◌, List, map, true, subst, sym}
use Rattle.std.specs.List.{AllByRecursion}
use Rattle.prove_sums.specs.model_sums.specs.Closed.{all_pass, has_sums}
use Rattle.prove_sums.specs.model_sums.specs.Sums.{first_known, sums_at}
use Rattle.lab_app_rules.specs.Rules.{name_of}
use Rattle.prove_keys.specs.Tables.{moments_of}
use Rattle.prove_arrivals.specs.Subjects.{tables_in}
use Rattle.prove_patterns.specs.Classes.{class_values}
use Rattle.prove_steps.proofs.StepLemmas.{from_some}
use Rattle.prove_sum_steps.specs.declared.goals.Goal.{Goal}
use Rattle.prove_sum_steps.specs.Places.{table_in}
use Rattle.prove_sum_steps.specs.Tables.{IsGoal, goal_key}
use Rattle.prove_sum_steps.proofs.ReachLemmas.{beginnings_pass}
use Rattle.prove_sum_steps.proofs.StepLemmas.{totals_at}
use Rattle.prove_sum_steps.proofs.starts.starts_follow.Goals as goal

pub returns-in-Some : goal.returns-in-Some
returns-in-Some c h names s is ranges =
    let u = c.args.stand.now.subject.now in
    let near = c.args.near.now in
    let table = table_in names c.args.stand.now in
    let ts = s.rules.totals in
    let gs = c.in-Some.goals.items in
    let sums = map name_of c.args.stand.now.rules.now.sums.items in
    let same = c.as_slice-in-Some.ensures.value in
    let totals = totals_at sums ts c.args.stand.now.rules.now.balances.items _ c.as_slice-balances.ensures.value is.sums.totals in
    let all =
    c.in_ok-holds-in-Some.ensures h names sums ts table u totals (c.in_ok-first.ensures sums ts totals)
    (subst (AllByRecursion (IsGoal names u table)) (sym same) (from_some _ _ _ c.in-Some.is c.in_ok-goals.ensures.known names s is.subject)) in
    beginnings_pass names s table u u.sizes.fixed gs near.places.keys near.known.items (moments_of names near.moments.keys near.facts.items)
    (from_some _ _ _ c.in-Some.is c.in_ok-goals.ensures.keys ∙ c.as_slice.ensures.keys) (class_values c.args.classes.now) (tables_in names u).moments
    (c.in_ok-moments_lead_within.ensures c.if-not-branch.false names s is ranges)
    (subst (λ (l : List Goal). all_pass (λ g. has_sums ts (first_known ts) (sums_at table (goal_key names u g))) l ≡ true) same all)
