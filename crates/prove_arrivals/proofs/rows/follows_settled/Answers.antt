use Rattle.std.proofs.Common.{ap, subst, ◌∙◌}
use Rattle.prove_facts.specs.model_prove.specs.Steps as steps
use Rattle.prove_keys.specs.Keys.{amounts_of}
use Rattle.prove_scenes.specs.ShapeValues.{next_value}
use Rattle.prove_spots.specs.Grounds.{Ground}
use Rattle.prove_arrivals.specs.Following.{followed, spot_after, spot_before}
use Rattle.prove_arrivals.specs.Subjects.{Accepts, spot_in, start_in}
use Rattle.prove_arrivals.proofs.AllowedLemmas.{on_turn}
use Rattle.prove_arrivals.proofs.rows.follows_settled.Goals as goal

pub returns : goal.returns
returns c =
    let u = c.args.subject.now in
    let r = c.args.row.now in
    let g = c.args.after.now in
    let amounts = c.args.amounts.now in
    let k = c.settled.new.self in
    on_turn c.follows.result u r amounts (λ names s i. steps.follows s i r.writes (next_value r.next) (spot_before names u r amounts) (spot_after names u r amounts k))
    (λ names s i. followed names s i u r amounts g)
    (λ names s i o t h.
    subst (λ (q : steps.Spot). Accepts names u (steps.follows s i r.writes (next_value r.next) (spot_before names u r amounts) q))
    (c.in_ok-settled-2.ensures s (start_in u r.begun) (amounts_of names amounts) o.subject.sized.fixed
    ∙ ap (λ (x : Ground). steps.settled_spot s (spot_in names u r.begun amounts x)) c.in_ok-settled.ensures) h)
    c.follows.ensures
