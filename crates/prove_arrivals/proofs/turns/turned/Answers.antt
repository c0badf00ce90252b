use Rattle.std.proofs.Common.{ap, refl}
use Rattle.prove_scenes.specs.ShapeValues.{next_value}
use Rattle.prove_arrivals.specs.Following.{at_depth, after_event, spot_after, spot_before, turned_arrivals}
use Rattle.prove_arrivals.specs.Subjects.{start_in, tables_in}
use Rattle.prove_arrivals.proofs.AllowedLemmas.{on_turn}
use Rattle.prove_arrivals.proofs.OutcomeLemmas.{command_turned, delegation_turned}
use Rattle.prove_arrivals.proofs.turns.turned.Goals as goal

pub returns-in-Class : goal.returns-in-Class
returns-in-Class c =
    let u = c.args.subject.now in
    let r = c.args.row.now in
    let g = c.args.after.now in
    let amounts = c.args.amounts.now in
    on_turn c.at_depth.result u r amounts (λ names s i. at_depth names s i u r amounts 1 g) (λ names s i. turned_arrivals names s i u r amounts g)
    (λ names s i o t h.
    command_turned (tables_in names u) s (spot_before names u r amounts).key i g.dt g.c g.z (after_event s r.writes (next_value r.next) (spot_before names u r amounts) (spot_after names u r amounts g))
    (start_in u r.begun) _ refl (ap (start_in u) c.in-Class.is) h)
    c.at_depth.ensures

pub returns-else-not-branch-2 : goal.returns-else-not-branch-2
returns-else-not-branch-2 c =
    let u = c.args.subject.now in
    let r = c.args.row.now in
    let g = c.args.after.now in
    let amounts = c.args.amounts.now in
    on_turn c.at_depth-in-Delegated-3.result u r amounts (λ names s i. at_depth names s i u r amounts 4 g) (λ names s i. turned_arrivals names s i u r amounts g)
    (λ names s i o t h.
    delegation_turned (tables_in names u) s (spot_before names u r amounts).key i g.dt g.c g.z (after_event s r.writes (next_value r.next) (spot_before names u r amounts) (spot_after names u r amounts g))
    (start_in u r.begun) refl (ap (start_in u) c.in-Delegated.is) (c.in_ok-at_depth-in-Delegated.ensures c.if-not-branch.false names s i o t)
    (c.in_ok-at_depth-in-Delegated-2.ensures c.if-not-branch-2.false names s i o t) h)
    c.at_depth-in-Delegated-3.ensures
