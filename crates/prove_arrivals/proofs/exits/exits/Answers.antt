use Rattle.std.proofs.Common.{◌≡◌, ap}
use Rattle.prove_facts.specs.model_prove.specs.Steps as steps
use Rattle.prove_scenes.specs.declared.shapes.Next.TheVariants as next
use Rattle.prove_scenes.specs.ShapeValues.{next_value}
use Rattle.prove_arrivals.specs.Following.{spot_after, spot_before, turned_arrivals}
use Rattle.prove_arrivals.specs.Subjects.{start_in, tables_in}
use Rattle.prove_arrivals.proofs.AllowedLemmas.{on_turn_if}
use Rattle.prove_arrivals.proofs.OutcomeLemmas.{exit_included}
use Rattle.prove_arrivals.proofs.exits.exits.Goals as goal

pub returns-in-Delegated : goal.returns-in-Delegated
returns-in-Delegated c =
    let u = c.args.subject.now in
    let r = c.args.row.now in
    let g = c.args.after.now in
    let amounts = c.args.amounts.now in
    on_turn_if c.turned.result u r amounts (r.next ≡ next.Exits) (λ names s i. turned_arrivals names s i u r amounts g)
    (λ names s i. steps.follows s i r.writes (next_value r.next) (spot_before names u r amounts) (spot_after names u r amounts g))
    (λ names s i n o t h.
    exit_included (tables_in names u) s i r.writes (spot_before names u r amounts) (spot_after names u r amounts g) (next_value r.next) (ap next_value n) (ap (start_in u) c.in-Delegated.is) h)
    c.turned.ensures
