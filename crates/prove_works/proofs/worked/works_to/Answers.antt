use Rattle.std.specs.Prelude.{List, map, flat_map}
use Rattle.std.proofs.Common.{◌∙◌, ap}
use Rattle.prove_facts.specs.model_prove.specs.Digits.{Flags, Digits}
use Rattle.prove_facts.specs.model_prove.specs.Facts as known
use Rattle.prove_facts.specs.model_prove.specs.Steps as steps
use Rattle.prove_digits.specs.declared.digits.Way.{Way}
use Rattle.prove_digits.specs.Ways.{way_value, ways_found}
use Rattle.prove_scenes.specs.Works.{digitwise_value}
use Rattle.prove_spots.specs.Grounds.{spot_of}
use Rattle.prove_works.specs.Rows.{way_spots}
use Rattle.prove_works.proofs.WorkLemmas.{works_is}
use Rattle.prove_works.proofs.worked.works_to.Goals as goal

pub returns-in-Some-2 : goal.returns-in-Some-2
returns-in-Some-2 c s a =
    let d = digitwise_value c.args.digitwise.now in
    let p = spot_of s a c.args.spot.now in
    (rw c.in-Some-2.is at c.in_ok-spots-in-Some.ensures) s a
    ∙ ap (λ (l : List (Flags × List Digits)). flat_map (way_spots d c.args.dt p) l)
    (ap (λ (l : List Way). map way_value l) c.as_slice.ensures.value ∙ (rw c.in-Some.is at c.in_ok-list.ensures)
    ∙ ap (λ (f : known.Facts). ways_found d.op (steps.pairs_of (known.values_from f d.at d.n) (steps.operand_sets f d.operand d.n))) c.bytes.ensures)
    ∙ works_is d c.args.dt p
