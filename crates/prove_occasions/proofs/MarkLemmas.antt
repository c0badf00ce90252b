-- Which lines apply to a command and to its answer, in the code and in the definition.
use Rattle.std.proofs.Common.{◌≡◌, ℕ, List, [], ◌∷◌, ◌++◌, map, Bool, true, false, not, ◌&&◌, ◌||◌, Option, Some, None, refl, ap, ◌∙◌}
use Rattle.lab_app_rules.specs.model_events.specs.Matching.{fits}
use Rattle.prove_facts.specs.model_rules.specs.Rules.{Trigger, AtTurn, AtCommand, AtAnswer, AtSession, Action, OnLine}
use Rattle.prove_facts.specs.model_prove.specs.Arrivals as arrivals
use Rattle.prove_facts.specs.model_prove.specs.Arrivals.{pick, command_picks, answer_picks, answered_picks, with_results, pattern_of_result, result_patterns}
use Rattle.lab_app_rules.specs.declared.rules.Event.{Event}
use Rattle.lab_app_rules.specs.declared.rules.On.{On}
use Rattle.lab_app_rules.specs.Rules.{AreLines, FirstLine, IsTrigger, deed_of}
use Rattle.prove_occasions.specs.Amounts.{first_mark, is_answer, is_command, marks_after}
use Rattle.prove_occasions.specs.Picks.{answer_marks, command_marks, mark_if, result_marks}
use Rattle.prove_occasions.proofs.AmountLemmas.{fits_plain}
use Rattle.prove_occasions.proofs.LineLemmas.{are_first, of_allowance, of_sum}

-- ---- commands

-- the marks of a line about an allowance with this event, and of those after it
abbrev command_from : Event → List Bool → (List Bool → List Bool) → List Bool
command_from e class more = (is_command e && first_mark class) ∷ more (marks_after (is_command e || is_answer e) class)

command_at : (t : Trigger) (class : List Bool) (on : On) (more rest : List Bool → List Bool) → IsTrigger t on → ((bs : List Bool) → more bs ≡ rest bs)
    → command_from on.event class more ≡ pick t class (λ answer b. not answer && b) rest
command_at (AtTurn p) class on more rest h same = ap (λ (e : Event). command_from e class more) h.0 ∙ ap (λ (bs : List Bool). false ∷ bs) (same class)
command_at (AtCommand p) [] on more rest h same = ap (λ (e : Event). command_from e [] more) h.0 ∙ ap (λ (bs : List Bool). false ∷ bs) (same [])
command_at (AtCommand p) (b ∷ class) on more rest h same = ap (λ (e : Event). command_from e (b ∷ class) more) h.0 ∙ ap (λ (bs : List Bool). b ∷ bs) (same class)
command_at (AtAnswer p q) [] on more rest h same = ap (λ (e : Event). command_from e [] more) h.0 ∙ ap (λ (bs : List Bool). false ∷ bs) (same [])
command_at (AtAnswer p q) (b ∷ class) on more rest h same = ap (λ (e : Event). command_from e (b ∷ class) more) h.0 ∙ ap (λ (bs : List Bool). false ∷ bs) (same class)
command_at AtSession class on more rest h same = ap (λ (e : Event). command_from e class more) h ∙ ap (λ (bs : List Bool). false ∷ bs) (same class)

-- the marks of a line, by whether it is about an allowance, and of those after it
abbrev command_if : Bool → On → List On → List Bool → List Bool
command_if b on ons class = mark_if b (is_command on.event && first_mark class) ++ command_marks ons (marks_after (b && (is_command on.event || is_answer on.event)) class)

command_by : (d : Option (Action × ℕ)) (names : List (List ℕ)) (ls : List OnLine) (on : On) (ons : List On) (class : List Bool) → deed_of on.effect ≡ d
    → FirstLine d names ls on (λ more. AreLines names more ons)
    → ((more : List OnLine) (bs : List Bool) → AreLines names more ons → command_marks ons bs ≡ command_picks bs more)
    → command_marks (on ∷ ons) class ≡ command_picks class ls
command_by None names ls on ons class d first ih = ap (λ (b : Bool). command_if b on ons class) (of_sum on d) ∙ ih ls class first
command_by (Some deed) names [] on ons class d first ih = absurd first
command_by (Some deed) names (l ∷ ls) on ons class d first ih =
    ap (λ (b : Bool). command_if b on ons class) (of_allowance on deed d)
    ∙ command_at l.trigger class on (command_marks ons) (λ bs. command_picks bs ls) first.0.trigger (λ bs. ih ls bs first.1)

-- the lines that apply to a command
pub command_lines : (names : List (List ℕ)) (ls : List OnLine) (ons : List On) (class : List Bool) → AreLines names ls ons → command_marks ons class ≡ command_picks class ls
command_lines names [] [] class lines = refl
command_lines names (l ∷ ls) [] class lines = absurd lines
command_lines names ls (on ∷ ons) class lines =
    command_by (deed_of on.effect) names ls on ons class refl (are_first names ls on ons lines) (λ more bs m. command_lines names more ons bs m)

-- ---- answers

abbrev answer_from : Event → List Bool → List Bool → (List Bool → List Bool → List Bool) → List Bool
answer_from e class results more =
    (is_answer e && (first_mark class && first_mark results)) ∷ more (marks_after (is_command e || is_answer e) class) (marks_after (is_answer e) results)

-- whether a line with a trigger applies, and those after it
abbrev answered_from : Trigger → List OnLine → List Bool → List Bool → List Bool
answered_from t ls [] results = []
answered_from t ls (p ∷ ps) results = with_results (arrivals.is_answer t) (p ∷ ps) results (λ bs. answered_picks ls ps bs)

answered_first : (l : OnLine) (ls : List OnLine) (ps results : List Bool) → answered_from l.trigger ls ps results ≡ answered_picks (l ∷ ls) ps results
answered_first l ls [] results = refl
answered_first l ls (p ∷ ps) results = refl

answer_at : (t : Trigger) (class results : List Bool) (on : On) (ls : List OnLine) (more : List Bool → List Bool → List Bool) → IsTrigger t on
    → ((bs rs : List Bool) → more bs rs ≡ answered_picks ls (answer_picks bs ls) rs)
    → answer_from on.event class results more ≡ answered_from t ls (pick t class (λ answer b. answer && b) (λ bs. answer_picks bs ls)) results
answer_at (AtTurn p) class results on ls more h same =
    ap (λ (e : Event). answer_from e class results more) h.0 ∙ ap (λ (bs : List Bool). false ∷ bs) (same class results)
answer_at (AtCommand p) [] results on ls more h same =
    ap (λ (e : Event). answer_from e [] results more) h.0 ∙ ap (λ (bs : List Bool). false ∷ bs) (same [] results)
answer_at (AtCommand p) (b ∷ class) results on ls more h same =
    ap (λ (e : Event). answer_from e (b ∷ class) results more) h.0 ∙ ap (λ (bs : List Bool). false ∷ bs) (same class results)
answer_at (AtAnswer p q) [] [] on ls more h same =
    ap (λ (e : Event). answer_from e [] [] more) h.0 ∙ ap (λ (bs : List Bool). false ∷ bs) (same [] [])
answer_at (AtAnswer p q) [] (r ∷ results) on ls more h same =
    ap (λ (e : Event). answer_from e [] (r ∷ results) more) h.0 ∙ ap (λ (bs : List Bool). false ∷ bs) (same [] results)
answer_at (AtAnswer p q) (b ∷ class) [] on ls more h same =
    ap (λ (e : Event). answer_from e (b ∷ class) [] more) h.0 ∙ none_after b (more class []) ∙ ap (λ (bs : List Bool). false ∷ bs) (same class [])
  where
    none_after : (b : Bool) (bs : List Bool) → (b && false) ∷ bs ≡ false ∷ bs
    none_after true bs = refl
    none_after false bs = refl
answer_at (AtAnswer p q) (b ∷ class) (r ∷ results) on ls more h same =
    ap (λ (e : Event). answer_from e (b ∷ class) (r ∷ results) more) h.0 ∙ ap (λ (bs : List Bool). (b && r) ∷ bs) (same class results)
answer_at AtSession class results on ls more h same =
    ap (λ (e : Event). answer_from e class results more) h ∙ ap (λ (bs : List Bool). false ∷ bs) (same class results)

abbrev answer_if : Bool → On → List On → List Bool → List Bool → List Bool
answer_if b on ons class results =
    mark_if b (is_answer on.event && (first_mark class && first_mark results))
    ++ answer_marks ons (marks_after (b && (is_command on.event || is_answer on.event)) class) (marks_after (b && is_answer on.event) results)

answer_by : (d : Option (Action × ℕ)) (names : List (List ℕ)) (ls : List OnLine) (on : On) (ons : List On) (class results : List Bool) → deed_of on.effect ≡ d
    → FirstLine d names ls on (λ more. AreLines names more ons)
    → ((more : List OnLine) (bs rs : List Bool) → AreLines names more ons → answer_marks ons bs rs ≡ answered_picks more (answer_picks bs more) rs)
    → answer_marks (on ∷ ons) class results ≡ answered_picks ls (answer_picks class ls) results
answer_by None names ls on ons class results d first ih = ap (λ (b : Bool). answer_if b on ons class results) (of_sum on d) ∙ ih ls class results first
answer_by (Some deed) names [] on ons class results d first ih = absurd first
answer_by (Some deed) names (l ∷ ls) on ons class results d first ih =
    ap (λ (b : Bool). answer_if b on ons class results) (of_allowance on deed d)
    ∙ answer_at l.trigger class results on ls (answer_marks ons) first.0.trigger (λ bs rs. ih ls bs rs first.1)
    ∙ answered_first l ls (pick l.trigger class (λ answer b. answer && b) (λ bs. answer_picks bs ls)) results

-- the lines that apply to an answer
pub answer_lines : (names : List (List ℕ)) (ls : List OnLine) (ons : List On) (class results : List Bool) → AreLines names ls ons
    → answer_marks ons class results ≡ answered_picks ls (answer_picks class ls) results
answer_lines names [] [] class results lines = refl
answer_lines names (l ∷ ls) [] class results lines = absurd lines
answer_lines names ls (on ∷ ons) class results lines =
    answer_by (deed_of on.effect) names ls on ons class results refl (are_first names ls on ons lines) (λ more bs rs m. answer_lines names more ons bs rs m)

-- ---- results

abbrev results_of : List ℕ → List (List ℕ) → List Bool
results_of text qs = map (λ q. fits q text) qs

result_at : (t : Trigger) (on : On) (text : List ℕ) (more : List Bool) (rest : List (List ℕ)) → IsTrigger t on → more ≡ results_of text rest
    → mark_if (is_answer on.event) (fits on.result.items text) ++ more ≡ results_of text (pattern_of_result t rest)
result_at (AtTurn p) on text more rest h same = ap (λ (e : Event). mark_if (is_answer e) (fits on.result.items text) ++ more) h.0 ∙ same
result_at (AtCommand p) on text more rest h same = ap (λ (e : Event). mark_if (is_answer e) (fits on.result.items text) ++ more) h.0 ∙ same
result_at (AtAnswer p q) on text more rest h same =
    ap (λ (e : Event). mark_if (is_answer e) (fits on.result.items text) ++ more) h.0
    ∙ ap (λ (x : List ℕ). fits x text ∷ more) h.2
    ∙ ap (λ (b : Bool). b ∷ more) (fits_plain q text)
    ∙ ap (λ (bs : List Bool). fits q text ∷ bs) same
result_at AtSession on text more rest h same = ap (λ (e : Event). mark_if (is_answer e) (fits on.result.items text) ++ more) h ∙ same

result_by : (d : Option (Action × ℕ)) (names : List (List ℕ)) (ls : List OnLine) (on : On) (ons : List On) (text : List ℕ) → deed_of on.effect ≡ d
    → FirstLine d names ls on (λ more. AreLines names more ons)
    → ((more : List OnLine) → AreLines names more ons → result_marks text ons ≡ results_of text (result_patterns more))
    → result_marks text (on ∷ ons) ≡ results_of text (result_patterns ls)
result_by None names ls on ons text d first ih =
    ap (λ (b : Bool). mark_if (b && is_answer on.event) (fits on.result.items text) ++ result_marks text ons) (of_sum on d) ∙ ih ls first
result_by (Some deed) names [] on ons text d first ih = absurd first
result_by (Some deed) names (l ∷ ls) on ons text d first ih =
    ap (λ (b : Bool). mark_if (b && is_answer on.event) (fits on.result.items text) ++ result_marks text ons) (of_allowance on deed d)
    ∙ result_at l.trigger on text (result_marks text ons) (result_patterns ls) first.0.trigger (ih ls first.1)

-- the results that match a text
pub result_lines : (names : List (List ℕ)) (ls : List OnLine) (ons : List On) (text : List ℕ) → AreLines names ls ons → result_marks text ons ≡ results_of text (result_patterns ls)
result_lines names [] [] text lines = refl
result_lines names (l ∷ ls) [] text lines = absurd lines
result_lines names ls (on ∷ ons) text lines =
    result_by (deed_of on.effect) names ls on ons text refl (are_first names ls on ons lines) (λ more m. result_lines names more ons text m)
