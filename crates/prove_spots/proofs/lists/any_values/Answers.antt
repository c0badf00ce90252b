use Rattle.std.proofs.Common.{◌≡◌, ◌+◌, ◌-◌, ◌++◌, List, map, sym, subst, arith}
use Rattle.prove_facts.specs.model_prove.specs.Steps.{any_bytes}
use Rattle.prove_facts.specs.declared.values.Values.{Values}
use Rattle.prove_facts.specs.Sets.{set_of}
use Rattle.prove_facts.proofs.SetLemmas.{full_is}
use Rattle.prove_spots.proofs.ListLemmas.{any_more}
use Rattle.prove_spots.proofs.lists.any_values.Goals as goal

pub loop-index-preserved : goal.loop-index-preserved
loop-index-preserved c =
    let n = c.args.n in
    let i = c.loop-index._index in
    subst (λ (t : List Values). map set_of t ++ any_bytes (n - (i + 1)) ≡ any_bytes n) (sym c.in_ok-push.ensures) (
    any_more n i c.loop-index.list.items _ (omega arith) full_is c.loop-index.invariant)
