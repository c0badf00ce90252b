use Rattle.std.proofs.Common.{◌∙◌, sym, ap, Bool}
use Rattle.std.specs.Prelude.{◌&&◌}
use Rattle.prove_facts.specs.Sets.{has_bit}
use Rattle.prove_facts.proofs.SetLemmas.{within_is, subset_bits}
use Rattle.prove_facts.proofs.values.Values.is_within.Goals as goal

pub returns-clause-values : goal.returns-clause-values
returns-clause-values c e v h i =
    let xs = c.args.self.now.words in
    let ys = c.args.other.now.words in
    subset_bits xs ys v
    (sym (c.is_empty.ensures.set ∙ within_is c.and.result.words xs ys (λ w l. c.and.ensures.values w l ∙ ap (λ (b : Bool). has_bit xs w && b) (c.not.ensures w l))) ∙ e) h i

pub returns-clause-set : goal.returns-clause-set
returns-clause-set c =
    let xs = c.args.self.now.words in
    let ys = c.args.other.now.words in
    c.is_empty.ensures.set ∙ within_is c.and.result.words xs ys (λ w l. c.and.ensures.values w l ∙ ap (λ (b : Bool). has_bit xs w && b) (c.not.ensures w l))
