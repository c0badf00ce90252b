use Rattle.std.proofs.Common.{◌∙◌, ap, sym, Bool}
use Rattle.std.specs.Prelude.{not, ◌&&◌}
use Rattle.prove_facts.specs.Sets.{has_value}
use Rattle.prove_patterns.proofs.LengthLemmas.{some_is}
use Rattle.prove_patterns.proofs.lengths.has_between.Goals as goal

pub returns : goal.returns
returns c p h =
    ap (λ (b : Bool). not b) c.is_empty.ensures.set
    ∙ some_is c.and.result.words c.args.values.now.words p
    (λ v l. c.and.ensures.values v l ∙ ap (λ (b : Bool). has_value c.args.values.now v && b) (c.range.ensures v l ∙ sym (h v l)))
