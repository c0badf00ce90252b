use Rattle.std.proofs.Common.{◌∙◌, ℕ, List, Bor, ap, sym}
use Rattle.std.specs.Prelude.{option_map}
use Rattle.desk_draft.specs.Rules.{is_unnamed}
use Rattle.desk_draft.proofs.rule.is_unknown.Goals as goal

pub returns-in-Some : goal.returns-in-Some
returns-in-Some c = λ l h.
    c.is_unnamed.ensures l h ∙ ap (is_unnamed l) (sym (ap (option_map (λ (p : Bor (List ℕ) × Bor (List ℕ)). (p.0.now, p.1.now))) c.in-Some.is) ∙ c.only_two.ensures)

pub returns-in-None : goal.returns-in-None
returns-in-None c = λ l h. ap (is_unnamed l) (sym (ap (option_map (λ (p : Bor (List ℕ) × Bor (List ℕ)). (p.0.now, p.1.now))) c.in-None.is) ∙ c.only_two.ensures)
