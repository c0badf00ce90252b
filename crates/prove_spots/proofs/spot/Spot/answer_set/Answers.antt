use Rattle.std.proofs.Common.{ℕ, Option, List, map, sym, ap, ◌∙◌}
use Rattle.prove_facts.specs.model_prove.specs.Sets.{Set}
use Rattle.prove_facts.specs.model_prove.specs.Steps as steps
use Rattle.prove_facts.specs.Sets.{set_of}
use Rattle.prove_spots.specs.Grounds.{spot_of}
use Rattle.prove_spots.proofs.SpotLemmas.{done_from}
use Rattle.prove_spots.proofs.spot.Spot.answer_set.Goals as goal

pub returns-in-Some : goal.returns-in-Some
returns-in-Some c =
    let old = c.args.self.now in
    let at = c.args.at in
    done_from c.written.result c.written.new.self old old (steps.written at (map set_of c.pair_of-pair.result)) (steps.answer_set at c.args.number)
    (λ s a. ap (λ (t : List Set). steps.written at t (spot_of s a old)) c.pair_of-pair.ensures ∙ ap (λ (n : Option ℕ). steps.answer_set at n (spot_of s a old)) (sym c.in-Some.is))
    c.written.ensures
