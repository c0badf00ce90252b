use Rattle.std.proofs.Common.{◌∙◌, List, subst, sym}
use Rattle.prove_facts.specs.model_prove.specs.Steps.{place_arrivals}
use Rattle.prove_sums.specs.model_sums.specs.Sums.{sums_at}
use Rattle.prove_arrivals.specs.Subjects.{classes_in}
use Rattle.prove_keys.specs.Keys.{place_of}
use Rattle.prove_keys.specs.Tables.{moments_of}
use Rattle.prove_steps.proofs.StepLemmas.{from_some}
use Rattle.prove_sums.specs.Values.{sums_value}
use Rattle.prove_sum_steps.specs.declared.goals.Goal.{Goal}
use Rattle.prove_sum_steps.specs.Places.{AreGoals, spot_with, table_in}
use Rattle.prove_sum_steps.proofs.PlaceLemmas.{there_closed}
use Rattle.prove_sum_steps.proofs.ReachLemmas.{outcomes_pass}
use Rattle.prove_sum_steps.proofs.places.place_holds.Goals as goal

pub returns-in-Some-sums_at : goal.returns-in-Some-sums_at
returns-in-Some-sums_at c h names s is size =
    let j = c.args.stand.now.subject.now in
    let near = c.args.near.now in
    let table = table_in names c.args.stand.now in
    let p = spot_with names j c.args.key.now c.args.packed.now in
    let gs = c.in-Some.goals.items in
    let keys = from_some _ _ _ c.in-Some.is c.in_ok-goals.ensures.keys ∙ c.as_slice.ensures.keys in
    let included = c.in_ok-leads_within.ensures c.if-not-branch.false names s is size in
    let are : AreGoals names s table j p gs = record {
      goals = from_some _ _ _ c.in-Some.is c.in_ok-goals.ensures.known names s is.subject;
      reached = λ w next after n all.
          outcomes_pass names s table j j.sizes.fixed gs near.places.keys near.known.items (moments_of names near.moments.keys near.facts.items) keys w next after n
          (place_arrivals s p.key p.known) included all;
    } in
    let found = c.in-Some-sums_at.ensures names (classes_in j) is.subject.whole is.subject.apart in
    there_closed s table p (sums_at table (place_of names (classes_in j) c.args.key.now)) (sums_value c.in-Some-sums_at.sums.now) j.code.now found.1 is.subject.code
    (c.in_ok-holds-in-Some-sums_at.ensures h names s table is size
    (subst (λ (l : List Goal). AreGoals names s table j p l) (sym c.as_slice-in-Some-sums_at.ensures.value) are))
