use Rattle.std.proofs.Common.{◌≡◌, true, List, map, subst}
use Rattle.prove_facts.specs.model_prove.specs.Arrivals.{Setting}
use Rattle.prove_facts.specs.model_prove.specs.Between as between
use Rattle.prove_facts.specs.model_prove.specs.Tables.{moments_closed}
use Rattle.lab_app_rules.specs.Rules.{name_of}
use Rattle.prove_arrivals.specs.Subjects.{tables_in}
use Rattle.prove_closed.proofs.LoopLemmas.{if_ok}
use Rattle.prove_closed.proofs.ClosingLemmas.{closed_from}
use Rattle.prove_closed.proofs.closing.subject_closed.Goals as goal

pub returns : goal.returns
returns c =
    if_ok _ _ c.all_places_closed.result c.all_places_closed.ensures
    (λ b h e a t are is found.
    let names = map name_of c.args.rules.now.allowances.items in
    let s : Setting = record { rules = a; app = t.app } in
    let all = tables_in names c.args.subject.now in
    closed_from s all (c.in_ok-creation_holds.ensures c.if-not-branch.false a t are is)
    (subst (λ (cs : List between.Class). moments_closed s cs all all.moments ≡ true) found
    (c.in_ok-all_moments_closed.ensures c.if-not-branch-2.false names s is are.ranges))
    (h e names s is))
