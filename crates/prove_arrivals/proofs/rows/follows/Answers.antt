use Rattle.std.proofs.Common.{ap}
use Rattle.prove_facts.specs.model_prove.specs.Steps as steps
use Rattle.prove_scenes.specs.ShapeValues.{next_value}
use Rattle.prove_arrivals.specs.Following.{spot_after, spot_before, turned_arrivals}
use Rattle.prove_arrivals.specs.Subjects.{tables_in}
use Rattle.prove_arrivals.proofs.AllowedLemmas.{on_turn}
use Rattle.prove_arrivals.proofs.OutcomeLemmas.{delegates_included}
use Rattle.prove_arrivals.proofs.rows.follows.Goals as goal

pub returns-in-Delegates : goal.returns-in-Delegates
returns-in-Delegates c =
    let u = c.args.subject.now in
    let r = c.args.row.now in
    let g = c.args.after.now in
    let amounts = c.args.amounts.now in
    on_turn c.turned.result u r amounts (λ names s i. turned_arrivals names s i u r amounts g)
    (λ names s i. steps.follows s i r.writes (next_value r.next) (spot_before names u r amounts) (spot_after names u r amounts g))
    (λ names s i o t h.
    delegates_included (tables_in names u) s i r.writes (spot_before names u r amounts) (spot_after names u r amounts g) (next_value r.next) (ap next_value c.in-Delegates.is) h)
    c.turned.ensures
