-- The rules of a text's lines that begin with a word, one after the other.
use Rattle.std.proofs.Common.{◌≡◌, ℕ, List, Bool, true, false, not, Some, None, sym, ap, ◌∙◌}
use Rattle.std.specs.Prelude.{◌&&◌, ◌||◌}
use Rattle.law_histories.specs.model_text.specs.Text.{fields, lines}
use Rattle.mc_text.specs.model_text.specs.Text.{stays_inside}
use Rattle.law_histories.specs.Histories.{has_rule_of, is_rule_of}
use Rattle.mc_text.specs.Reading.{next_line}
use Rattle.mc_text.proofs.ReadingLemmas.{lines_at, lines_from}

rule_step : (word : List ℕ) (inside : Bool) (t l b : List ℕ) → Some (l, b) ≡ next_line t
    → has_rule_of word inside (lines t) ≡ ((not inside && is_rule_of word (fields l)) || has_rule_of word (stays_inside inside (fields l)) (lines b))
rule_step word inside t l b e = ap (has_rule_of word inside) (lines_at t ∙ ap lines_from (sym e))

-- a line that is such a rule
pub rule_here : (word : List ℕ) (inside : Bool) (t l b : List ℕ) (r whole : Bool) → Some (l, b) ≡ next_line t → r ≡ (not inside && is_rule_of word (fields l)) → r ≡ true → has_rule_of word inside (lines t) ≡ whole → true ≡ whole
rule_here word inside t l b r whole e h f g =
    sym (rule_step word inside t l b e ∙ ap (λ x. x || has_rule_of word (stays_inside inside (fields l)) (lines b)) (sym h ∙ f)) ∙ g

-- a line that is none
pub rule_next : (word : List ℕ) (inside stays : Bool) (t l b : List ℕ) (r whole : Bool) → Some (l, b) ≡ next_line t → r ≡ (not inside && is_rule_of word (fields l)) → r ≡ false → stays ≡ stays_inside inside (fields l)
    → has_rule_of word inside (lines t) ≡ whole → has_rule_of word stays (lines b) ≡ whole
rule_next word inside stays t l b r whole e h f s g =
    ap (λ i. has_rule_of word i (lines b)) s
    ∙ sym (rule_step word inside t l b e ∙ ap (λ x. x || has_rule_of word (stays_inside inside (fields l)) (lines b)) (sym h ∙ f)) ∙ g

-- no line is left
pub rule_none : (word : List ℕ) (inside : Bool) (t : List ℕ) (whole : Bool) → None ≡ next_line t → has_rule_of word inside (lines t) ≡ whole → false ≡ whole
rule_none word inside t whole e g = sym (ap (has_rule_of word inside) (lines_at t ∙ ap lines_from (sym e))) ∙ g
