use Rattle.std.proofs.Common.{◌≡◌, true, Bool, List, flat_map, subst}
use Rattle.std.specs.declared.alloc.Global.{Global}
use Rattle.std.specs.declared.vec.Vec.{Vec}
use Rattle.prove_facts.specs.model_prove.specs.Arrivals.{Arrival}
use Rattle.prove_facts.specs.model_prove.specs.Tables.{includes_all}
use Rattle.prove_arrivals.specs.Replying.{reply_arrivals}
use Rattle.prove_arrivals.specs.Subjects.{tables_in}
use Rattle.prove_arrivals.proofs.IncludedLemmas.{mapped_included}
use Rattle.prove_arrivals.proofs.replies.replied.Goals as goal

pub returns : goal.returns
returns c t names s o =
    let u = c.args.subject.now in
    let f : List Bool → List Arrival = reply_arrivals names s u c.args.number c.args.amounts.now c.args.spot.now in
    let items : Vec Bool Global → List Bool = λ m. m.items in
    let all = subst (λ (l : List (Vec Bool Global)). includes_all (tables_in names u) (flat_map (λ m. f (items m)) l) ≡ true) c.as_slice.ensures.value (c.in_ok-holds.ensures t names s o) in
    subst (λ (l : List (List Bool)). includes_all (tables_in names u) (flat_map f l) ≡ true) (c.in_ok-list.ensures names s o.subject)
    (mapped_included (tables_in names u) f items c.in_ok-list.list.items all)
