use Rattle.std.proofs.Common.{◌∙◌, sym, arith}
use Rattle.std.proofs.lemmas.List.{length-map}
use Rattle.prove_facts.specs.Facts.{fact_of, facts_of}
use Rattle.prove_facts.proofs.SetLemmas.{full_is}
use Rattle.prove_facts.proofs.FactLemmas.{values_past, values_first}
use Rattle.prove_facts.proofs.facts.values_in.Goals as goal

pub returns-then-place-list : goal.returns-then-place-list
returns-then-place-list c s =
    full_is ∙ sym (values_past (facts_of c.args.list.now) c.place_of-place.result c.args.at (omega (arith, length-map c.args.list.now fact_of)) (c.place_of-place.ensures.below s))

pub returns : goal.returns
returns c s =
    c.values_of_fact.ensures
    ∙ values_first c.args.list.now c.place_of-place.result c.args.at _ (omega arith) (c.place_of-place.ensures.below s) (c.place_of-place.ensures.above s)
