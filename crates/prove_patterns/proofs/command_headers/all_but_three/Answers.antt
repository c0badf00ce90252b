use Rattle.std.proofs.Common.{◌∙◌, ap, Bool, [], ◌∷◌}
use Rattle.std.specs.Prelude.{not, ◌||◌, ◌==◌}
use Rattle.prove_patterns.proofs.HeaderLemmas.{all_but_is, three_turned}
use Rattle.prove_patterns.proofs.command_headers.all_but_three.Goals as goal

pub returns : goal.returns
returns c =
    let x = c.args.a in
    let y = c.args.b in
    let z = c.args.c in
    all_but_is c.not.result.words (x ∷ y ∷ z ∷ [])
    (λ v l. c.not.ensures v l ∙ ap (λ (b : Bool). not b) (c.with-2.ensures v l ∙ ap (λ (b : Bool). b || (v == z)) (c.with.ensures v l ∙ ap (λ (b : Bool). b || (v == y)) (c.one.ensures.values v l)) ∙ three_turned v x y z))
