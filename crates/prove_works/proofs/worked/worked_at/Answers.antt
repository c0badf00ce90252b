use Rattle.std.specs.Prelude.{List}
use Rattle.std.proofs.Common.{◌∙◌, ap}
use Rattle.prove_facts.specs.model_prove.specs.Steps as steps
use Rattle.prove_facts.specs.declared.values.Values.{Values}
use Rattle.prove_scenes.specs.Works.{digitwise_value}
use Rattle.prove_spots.specs.Grounds.{spot_of}
use Rattle.prove_works.specs.Numbers.{flags_of}
use Rattle.prove_works.specs.Rows.{narrowed_spot}
use Rattle.prove_works.specs.Searches.{sets_of}
use Rattle.prove_works.proofs.WorkLemmas.{when_true, when_false}
use Rattle.prove_works.proofs.worked.worked_at.Goals as goal

pub returns-in-Some : goal.returns-in-Some
returns-in-Some c s a =
    let d = digitwise_value c.args.digitwise.now in
    let p = spot_of s a c.args.spot.now in
    when_true c.args.digitwise.now.written (spot_of s a c.in-Some.after)
    (steps.written d.at (sets_of c.args.way.now.r.items) (steps.with_facts p c.args.facts))
    (narrowed_spot c.args.facts (steps.compare_after d (flags_of c.args.way.now.c c.args.way.now.z) p.known.compare) p)
    c.if-digitwise.true
    ((rw c.in-Some.is at c.in_ok-after.ensures) s a
    ∙ ap (λ (l : List Values). steps.written d.at (sets_of l) (steps.with_facts p c.args.facts)) c.as_slice.ensures.value)

pub returns-in-Some-2 : goal.returns-in-Some-2
returns-in-Some-2 c s a =
    let d = digitwise_value c.args.digitwise.now in
    let p = spot_of s a c.args.spot.now in
    when_false c.args.digitwise.now.written (spot_of s a c.in-Some-2.after)
    (steps.written d.at (sets_of c.args.way.now.r.items) (steps.with_facts p c.args.facts))
    (narrowed_spot c.args.facts (steps.compare_after d (flags_of c.args.way.now.c c.args.way.now.z) p.known.compare) p)
    c.if-digitwise.false
    ((rw c.in-Some-2.is at c.in_ok-after-2.ensures) s a)
