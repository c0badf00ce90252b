use Rattle.std.specs.Prelude.{ℕ, List, map, ◌-◌}
use Rattle.std.proofs.Common.{◌∙◌, ap}
use Rattle.prove_facts.specs.declared.values.Values.{Values}
use Rattle.prove_facts.specs.Sets.{set_of}
use Rattle.prove_facts.specs.model_prove.specs.Steps as steps
use Rattle.prove_spots.specs.Grounds.{spot_of}
use Rattle.prove_works.proofs.SpotLemmas.{written_at}
use Rattle.prove_works.proofs.coarse.any_replaced.Goals as goal

pub returns : goal.returns
returns c s a =
    written_at s a (spot_of s a c.written.new.self) c.in_ok-after.after c.args.spot.now c.saturating_sub-at.result (c.args.spot.now.dt - c.args.n)
    (map set_of c.as_slice.result.now) (steps.any_bytes c.args.n)
    (c.in_ok-written.ensures c.if-not-branch.false s a)
    (c.saturating_sub-at.ensures ∙ ap (λ (k : ℕ). k - c.args.n) c.dt.ensures)
    (ap (λ (l : List Values). map set_of l) c.as_slice.ensures.value ∙ c.in_ok-list.ensures) c.in_ok-after.ensures
