use Rattle.std.proofs.Common.{◌++◌, flat_map, subst}
use Rattle.prove_facts.specs.model_prove.specs.Arrivals as arrivals
use Rattle.prove_facts.specs.model_prove.specs.Arrivals.{Setting, Arrival}
use Rattle.prove_facts.specs.model_prove.specs.Facts.{Facts}
use Rattle.prove_facts.specs.model_prove.specs.Steps as steps
use Rattle.prove_keys.specs.Keys.{amounts_of}
use Rattle.prove_arrivals.specs.Subjects.{Accepts, known_in, spot_in, start_in, tables_in}
use Rattle.prove_arrivals.proofs.IncludedLemmas.{both_included, more_included}
use Rattle.prove_arrivals.proofs.OutcomeLemmas.{back_included}
use Rattle.prove_arrivals.proofs.turns.delegates.Goals as goal

pub returns : goal.returns
returns c t names s old o =
    let u = c.args.subject.now in
    let r = c.args.row.now in
    let g = c.args.after.now in
    let a = amounts_of names c.args.amounts.now in
    let start = start_in u r.begun in
    let abends = flat_map (arrivals.abended s start a (known_in g)) steps.delegate_abends in
    let stops = arrivals.stopped s start a g.kept in
    more_included (tables_in names u) (steps.arrived (steps.after_delegation (spot_in names u r.begun old g)) a) (abends ++ stops)
    (back_included (tables_in names u) start (amounts_of names old) a g c.in_ok-back.back c.after_delegation.new.self c.in_ok-back.ensures c.in_ok-after_delegation.ensures
    (c.in_ok-at_place.ensures c.if-not-branch.false names s o))
    (both_included (tables_in names u) abends stops (c.in_ok-all_abended.ensures c.if-not-branch-2.false names s o)
    (subst (λ (f : Facts). Accepts names u (arrivals.stopped s start a f)) c.kept.ensures (c.in_ok-holds.ensures t names s o)))
