use Rattle.std.proofs.Common.{◌∙◌, sym, ap, subst, List}
use Rattle.model_prove.specs.Facts as known
use Rattle.prove_facts.specs.declared.facts.Fact.{Fact}
use Rattle.prove_facts.specs.Facts.{facts_of, AreSparse}
use Rattle.prove_facts.proofs.facts.Facts.at.Goals as goal

pub returns : goal.returns
returns c =
    c.values_in.ensures (subst (λ (l : List Fact). AreSparse 0 (facts_of l)) (sym c.as_slice.ensures.value) c.self.invariant)
    ∙ ap (λ (l : List Fact). known.values_at (facts_of l) c.args.at) c.as_slice.ensures.value
    ∙ ap (λ (f : known.Facts). known.values_at f c.args.at) c.self.view_is
