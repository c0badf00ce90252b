use Rattle.std.specs.Prelude.{true, map}
use Rattle.std.proofs.Common.{◌∙◌, ap}
use Rattle.prove_facts.specs.model_prove.specs.Digits.{Flags}
use Rattle.prove_facts.specs.model_prove.specs.Steps as steps
use Rattle.prove_works.proofs.coarse.shifting.Goals as goal

pub returns-in_ok-with_all_flags-in-Some : goal.returns-in_ok-with_all_flags-in-Some
returns-in_ok-with_all_flags-in-Some c s a =
    c.in_ok-with_all_flags-in-Some.ensures s a
    ∙ ap (λ (p : steps.Spot). map (λ (g : Flags). steps.flagged true g p) (steps.final_flags true)) ((rw c.in-Some.is at c.in_ok-base.ensures) s a)
