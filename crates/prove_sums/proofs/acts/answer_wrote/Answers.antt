use Rattle.std.proofs.Common.{ℕ, Option, subst, sym}
use Rattle.prove_forms.specs.model_sums.specs.Moves as moves
use Rattle.prove_sums.specs.Values.{SumsAre}
use Rattle.prove_sums.proofs.acts.answer_wrote.Goals as goal

pub returns-in_ok-lost-in-Some : goal.returns-in_ok-lost-in-Some
returns-in_ok-lost-in-Some c names ts u are s =
    subst (λ (w : Option ℕ). SumsAre c.in_ok-lost-in-Some.field-0 (moves.answer_wrote ts c.args.at w u)) (sym c.in-Some.is) (c.in_ok-lost-in-Some.ensures names ts u are s)
