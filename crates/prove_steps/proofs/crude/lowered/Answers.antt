use Rattle.std.proofs.Common.{◌∙◌, ap}
use Rattle.prove_facts.specs.model_prove.specs.Steps as steps
use Rattle.prove_arrivals.specs.Subjects.{start_in}
use Rattle.prove_keys.specs.Keys.{amounts_of}
use Rattle.prove_spots.specs.Grounds.{Ground, spot_of, with_at}
use Rattle.prove_steps.proofs.crude.lowered.Goals as goal

pub returns : goal.returns
returns c names u =
    let f = c.args.fetched.now in
    let start = start_in u f.begun in
    let a = amounts_of names f.amounts.now in
    c.in_ok-lowered.ensures start a
    ∙ ap (λ (g : Ground). steps.lowered c.args.dt (spot_of start a g)) (c.go.ensures ∙ ap (with_at f.next) c.in_ok-spot.ensures)
