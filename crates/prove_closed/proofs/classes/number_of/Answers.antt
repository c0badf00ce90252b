use Rattle.std.proofs.Common.{Bool, List, sym, ap, ◌∙◌}
use Rattle.prove_facts.specs.model_prove.specs.Digits.{same}
use Rattle.prove_facts.specs.model_prove.specs.Keys.{same_lists}
use Rattle.prove_closed.proofs.ClassLemmas.{class_at}
use Rattle.prove_closed.proofs.classes.number_of.Goals as goal

pub returns-then-same_matches : goal.returns-then-same_matches
returns-then-same_matches c =
    let m = c.args.matches.now in
    class_at c.args.classes.now c.loop-number.number c.index-classes-number.result m c.loop-number-test.true c.index-classes-number.is
    (ap (λ (l : List Bool). same_lists same l m) (sym c.as_slice.ensures.value) ∙ sym c.same_matches.ensures ∙ c.if-same_matches.true)
