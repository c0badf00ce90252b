use Rattle.std.proofs.Common.{Option, List, ℕ, Bor, subst, ◌≡◌}
use Rattle.std.specs.Prelude.{option_map, ◌==◌}
use Rattle.mc_text.specs.model_text.specs.Text.{first_cut}
use Rattle.desk_draft.proofs.WordLemmas.{one_piece}
use Rattle.desk_draft.proofs.instruction.is_one.Goals as goal

pub returns-in-None : goal.returns-in-None
returns-in-None c =
    let e = subst (λ (o : Option (Bor (List ℕ))). option_map (λ t. t.now) o ≡ (first_cut (λ c. c == 44) c.args.text.now).1) c.in-None.is c.cut.ensures.behind in
    one_piece c.args.text.now _ e

pub returns-in-Some : goal.returns-in-Some
returns-in-Some c =
    let e = subst (λ (o : Option (Bor (List ℕ))). option_map (λ t. t.now) o ≡ (first_cut (λ c. c == 44) c.args.text.now).1) c.in-Some.is c.cut.ensures.behind in
    one_piece c.args.text.now _ e
