use Rattle.std.specs.Prelude.{List}
use Rattle.std.proofs.Common.{◌∙◌, ap}
use Rattle.prove_facts.specs.model_prove.specs.Sets.{Set}
use Rattle.prove_facts.specs.model_prove.specs.Facts as known
use Rattle.prove_facts.specs.model_prove.specs.Steps as steps
use Rattle.prove_facts.specs.declared.values.Values.{Values}
use Rattle.prove_spots.specs.Grounds.{spot_of}
use Rattle.prove_works.specs.Searches.{sets_of}
use Rattle.prove_works.proofs.searched.searched.Goals as goal

pub returns-in-Some-2 : goal.returns-in-Some-2
returns-in-Some-2 c s a =
    let p = steps.lowered c.args.dt (spot_of s a c.args.spot.now) in
    (rw c.in-Some-2.is at c.in_ok-spots-in-Some.ensures) s a
    ∙ ap (λ (vs : Set). steps.searched vs (sets_of c.as_slice.result.now) p) (c.at-values.ensures ∙ ap (λ (f : known.Facts). known.values_at f c.args.value) c.bytes.ensures)
    ∙ ap (λ (t : List Set). steps.searched (known.values_at c.args.spot.now.bytes c.args.value) t p)
    (ap (λ (l : List Values). sets_of l) c.as_slice.ensures.value ∙ (rw c.in-Some.is at c.in_ok-list.ensures)
    ∙ ap (λ (f : known.Facts). known.values_from f c.args.table c.args.n) c.bytes-2.ensures)
