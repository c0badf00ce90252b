use Rattle.std.proofs.Common.{◌∙◌, ap, Bool, [], ◌∷◌}
use Rattle.std.specs.Prelude.{not}
use Rattle.prove_patterns.proofs.HeaderLemmas.{all_but_is, one_turned}
use Rattle.prove_patterns.proofs.command_headers.all_but_one.Goals as goal

pub returns : goal.returns
returns c =
    all_but_is c.not.result.words (c.args.byte ∷ []) (λ v l. c.not.ensures v l ∙ ap (λ (b : Bool). not b) (c.one.ensures.values v l ∙ one_turned v c.args.byte))
