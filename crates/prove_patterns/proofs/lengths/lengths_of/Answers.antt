use Rattle.std.proofs.Common.{◌∙◌, Bool, ap, sym}
use Rattle.std.specs.Prelude.{◌&&◌, ◌||◌, nat_lt}
use Rattle.prove_facts.specs.model_prove.specs.Sets.{is_in}
use Rattle.prove_facts.specs.model_prove.specs.Arrivals.{some_value}
use Rattle.prove_facts.specs.Sets.{set_of}
use Rattle.prove_facts.proofs.SetLemmas.{in_values}
use Rattle.prove_patterns.proofs.LengthLemmas.{above_0, below_4, above_4, lengths_are, is_small}
use Rattle.prove_patterns.proofs.lengths.lengths_of.Goals as goal

pub returns : goal.returns
returns c =
    let high = set_of c.args.high.now in
    let low = set_of c.args.low.now in
    let four = c.has-four.ensures ∙ sym (in_values c.args.high.now.words 4 is_small.0) in
    let zero = c.has.ensures ∙ sym (in_values c.args.low.now.words 0 is_small.1) in
    let some_low = c.has_between-some_low.ensures (λ v. nat_lt 0 v) above_0 in
    lengths_are c.either-some.result _ c.either-fitting.result _ c.either-too_long.result _
    (c.either-some.ensures ∙ ap (λ (b : Bool). b || c.has_between-some_low.result) (c.has_between.ensures (λ v. nat_lt 0 v) above_0) ∙ ap (λ (b : Bool). some_value (λ v. nat_lt 0 v) high || b) some_low)
    (c.either-fitting.ensures ∙ ap (λ (b : Bool). b || c.both.result) (c.has_between-2.ensures (λ v. nat_lt v 4) below_4)
    ∙ ap (λ (b : Bool). some_value (λ v. nat_lt v 4) high || b) (c.both.ensures ∙ ap (λ (b : Bool). b && c.has.result) four ∙ ap (λ (b : Bool). is_in 4 high && b) zero))
    (c.either-too_long.ensures ∙ ap (λ (b : Bool). b || c.both-2.result) (c.has_between-3.ensures (λ v. nat_lt 4 v) above_4)
    ∙ ap (λ (b : Bool). some_value (λ v. nat_lt 4 v) high || b) (c.both-2.ensures ∙ ap (λ (b : Bool). b && c.has_between-some_low.result) four ∙ ap (λ (b : Bool). is_in 4 high && b) some_low))
