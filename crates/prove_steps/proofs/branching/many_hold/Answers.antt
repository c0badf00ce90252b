use Rattle.std.proofs.Common.{sym}
use Rattle.prove_facts.specs.model_prove.specs.Reach.{takes_target}
use Rattle.prove_arrivals.specs.Subjects.{tables_in}
use Rattle.prove_steps.specs.Steps.{after_fetch, before, scene_of}
use Rattle.prove_steps.proofs.StepLemmas.{coarsely_included}
use Rattle.prove_steps.proofs.branching.many_hold.Goals as goal

pub returns : goal.returns
returns c h names s o =
    let u = c.args.subject.now in
    let f = c.args.fetched.now in
    coarsely_included (tables_in names u) (takes_target f.ins.now) s f.ins.now c.args.scene.now (scene_of names s u f) (before names u f) (after_fetch names u f)
    (sym c.if-takes_target.ensures) (c.requires.scene names s o.subject.sized) (c.in_ok-holds-2.ensures h names s o)
