use Rattle.std.proofs.Common.{subst}
use Rattle.prove_facts.specs.model_prove.specs.Splits.{Choice}
use Rattle.prove_arrivals.specs.Subjects.{Accepts, start_in}
use Rattle.prove_keys.specs.Keys.{amounts_of}
use Rattle.prove_steps.specs.Steps.{by_first_choice}
use Rattle.prove_steps.proofs.StepLemmas.{from_some}
use Rattle.prove_steps.proofs.branching.first_included.Goals as goal

pub first_holds-requires-clause-scene : goal.first_holds-requires-clause-scene
first_holds-requires-clause-scene c names s sized =
    let f = c.args.fetched.now in
    (from_some _ _ _ c.in-Some.is c.in_ok-scene.ensures) s.app (start_in c.args.subject.now f.begun) (amounts_of names f.amounts.now) sized

pub returns : goal.returns
returns c h names s o =
    subst (λ (d : Choice). Accepts names c.args.subject.now (by_first_choice names s c.args.subject.now c.args.fetched.now d)) c.as_slice-first.ensures.value
    (c.in_ok-holds.ensures h names s o)
