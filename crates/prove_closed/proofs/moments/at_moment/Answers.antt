use Rattle.std.proofs.Common.{◌≡◌, true, subst}
use Rattle.prove_facts.specs.model_prove.specs.Keys as known
use Rattle.prove_facts.specs.model_prove.specs.Arrivals.{AtMoment}
use Rattle.prove_facts.specs.model_prove.specs.Tables.{includes}
use Rattle.prove_arrivals.specs.Subjects.{classes_in, tables_in}
use Rattle.prove_closed.proofs.moments.at_moment.Goals as goal

pub returns : goal.returns
returns c e names s over =
    let u = c.args.subject.now in
    subst (λ (k : known.MomentKey). includes (tables_in names u) (AtMoment k c.args.facts.now) ≡ true) (c.in_ok-key.ensures names)
    (c.holds_moment.ensures names (classes_in u) u.sizes.fixed over.subject.whole e)
