use Rattle.std.proofs.Common.{◌≡◌, ◌+◌, ◌-◌, ◌++◌, List, map, sym, subst, arith}
use Rattle.prove_facts.specs.model_prove.specs.Facts.{values_from}
use Rattle.prove_facts.specs.declared.values.Values.{Values}
use Rattle.prove_facts.specs.Sets.{set_of}
use Rattle.prove_spots.proofs.ListLemmas.{value_more}
use Rattle.prove_spots.proofs.lists.values_within.Goals as goal

pub loop-index-preserved : goal.loop-index-preserved
loop-index-preserved c =
    let f = c.args.facts.now in
    let a = c.args.at in
    let n = c.args.n in
    let i = c.loop-index.index in
    subst (λ (t : List Values). map set_of t ++ values_from f (a + (i + 1)) (n - (i + 1)) ≡ values_from f a n) (sym c.in_ok-push.ensures) (
    value_more f a n i c.loop-index.list.items c.at.result (values_from f a n) (omega arith) c.at.ensures c.loop-index.invariant)
