use Rattle.std.proofs.Common.{Bool, [], cond, sym, subst}
use Rattle.prove_arrivals.specs.Following.{turned_arrivals}
use Rattle.prove_arrivals.specs.Subjects.{Accepts}
use Rattle.prove_arrivals.proofs.AllowedLemmas.{on_turn}
use Rattle.prove_arrivals.proofs.exits.fitting_included.Goals as goal

pub returns : goal.returns
returns c =
    let u = c.args.subject.now in
    let r = c.args.row.now in
    let g = c.args.after.now in
    let amounts = c.args.amounts.now in
    on_turn c.turned.result u r amounts (λ names s i. turned_arrivals names s i u r amounts g) (λ names s i. cond c.args.fitting (turned_arrivals names s i u r amounts g) [])
    (λ names s i o t h. subst (λ (b : Bool). Accepts names u (cond b (turned_arrivals names s i u r amounts g) [])) (sym c.if-not-fitting.false) h)
    c.turned.ensures
