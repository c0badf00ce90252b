use Rattle.std.proofs.Common.{◌≡◌, true, Bool, List, arith, flat_map, ap, subst, ◌∙◌}
use Rattle.std.specs.declared.alloc.Global.{Global}
use Rattle.std.specs.declared.vec.Vec.{Vec}
use Rattle.prove_facts.specs.model_prove.specs.Arrivals.{Arrival}
use Rattle.prove_facts.specs.model_prove.specs.Tables.{includes_all}
use Rattle.prove_arrivals.specs.Replying.{reply_arrivals}
use Rattle.prove_arrivals.specs.Subjects.{Accepts, tables_in}
use Rattle.prove_arrivals.proofs.IncludedLemmas.{next_included, none_included}
use Rattle.prove_arrivals.proofs.replies.all_answered.Goals as goal

pub loop-results-preserved : goal.loop-results-preserved
loop-results-preserved c names s o =
    let u = c.args.subject.now in
    let f : Vec Bool Global → List Arrival = λ m. reply_arrivals names s u c.args.number c.args.amounts.now c.args.spot.now m.items in
    next_included (tables_in names u) f c.args.list.now c.loop-results.results-index c.results-item.result (Accepts names u (flat_map f c.args.list.now)) (omega arith)
    (subst (λ (l : List Bool). includes_all (tables_in names u) (reply_arrivals names s u c.args.number c.args.amounts.now c.args.spot.now l) ≡ true)
    (c.as_slice.ensures.value ∙ ap (λ (m : Vec Bool Global). m.items) c.results-item.is) (c.in_ok-answered.ensures c.if-not-branch.false names s o))
    (c.loop-results.invariant names s o)

pub returns : goal.returns
returns c t names s o =
    let u = c.args.subject.now in
    let f : Vec Bool Global → List Arrival = λ m. reply_arrivals names s u c.args.number c.args.amounts.now c.args.spot.now m.items in
    c.loop-results.invariant names s o (none_included (tables_in names u) f c.args.list.now c.loop-results.results-index (omega arith))
