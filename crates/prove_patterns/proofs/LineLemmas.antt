-- The patterns of lines are those of the definition's lines.
use Rattle.std.proofs.Common.{◌≡◌, ◌∙◌, ℕ, List, [], ◌∷◌, Option, Some, None, ap, sym, refl}
use Rattle.std.specs.Prelude.{◌&&◌, cond, map}
use Rattle.prove_facts.specs.model_rules.specs.Rules.{Trigger, AtTurn, AtCommand, AtAnswer, AtSession, Action, OnLine, AppRules}
use Rattle.prove_facts.specs.model_prove.specs.Texts.{Opens, opened, any_count}
use Rattle.prove_facts.specs.model_prove.specs.Between as between
use Rattle.prove_facts.specs.model_prove.specs.Between.{apdu_pattern, apdu_patterns}
use Rattle.prove_facts.specs.model_prove.specs.Arrivals as arrivals
use Rattle.prove_facts.specs.model_prove.specs.Arrivals.{pattern_of_result}
use Rattle.lab_app_rules.specs.declared.rules.Event.{Event}
use Rattle.lab_app_rules.specs.declared.rules.On.{On}
use Rattle.lab_app_rules.specs.Rules.{AreLines, FirstLine, IsTrigger, deed_of}
use Rattle.prove_patterns.specs.Lines.{opened_plain, is_some, has_command, has_result, command_patterns, result_patterns}
use Rattle.prove_patterns.specs.Headers.{headers_from}
use Rattle.prove_patterns.specs.Classes.{classes_onto}
use Rattle.prove_patterns.proofs.HeaderLemmas.{headers_are}
use Rattle.prove_patterns.proofs.ClassLemmas.{classes_are}

-- ---- commands

command_trigger : (t : Trigger) (on : On) (ps rest : List (List ℕ)) → IsTrigger t on → map opened ps ≡ map opened_plain rest
    → map opened (apdu_pattern t ps) ≡ map opened_plain (cond (has_command on.event) (on.pattern.items ∷ rest) rest)
command_trigger (AtTurn p) on ps rest h e = e ∙ sym (ap (λ (v : Event). map opened_plain (cond (has_command v) (on.pattern.items ∷ rest) rest)) h.0)
command_trigger (AtCommand p) on ps rest h e =
    ap (λ (os : Opens). opened p ∷ os) e ∙ sym (ap (λ (q : List ℕ). opened_plain q ∷ map opened_plain rest) h.1)
    ∙ sym (ap (λ (v : Event). map opened_plain (cond (has_command v) (on.pattern.items ∷ rest) rest)) h.0)
command_trigger (AtAnswer p q) on ps rest h e =
    ap (λ (os : Opens). opened p ∷ os) e ∙ sym (ap (λ (q : List ℕ). opened_plain q ∷ map opened_plain rest) h.1)
    ∙ sym (ap (λ (v : Event). map opened_plain (cond (has_command v) (on.pattern.items ∷ rest) rest)) h.0)
command_trigger AtSession on ps rest h e = e ∙ sym (ap (λ (v : Event). map opened_plain (cond (has_command v) (on.pattern.items ∷ rest) rest)) h)

command_first : (d : Option (Action × ℕ)) (names : List (List ℕ)) (ls : List OnLine) (on : On) (ons : List On) (rest : List (List ℕ))
    → ((ms : List OnLine) → AreLines names ms ons → map opened (apdu_patterns ms) ≡ map opened_plain rest) → FirstLine d names ls on (λ ms. AreLines names ms ons)
    → map opened (apdu_patterns ls) ≡ map opened_plain (cond (is_some d && has_command on.event) (on.pattern.items ∷ rest) rest)
command_first None names ls on ons rest ih h = ih ls h
command_first (Some deed) names [] on ons rest ih h = absurd h
command_first (Some deed) names (l ∷ ls) on ons rest ih h = command_trigger l.trigger on (apdu_patterns ls) rest h.0.trigger (ih ls h.1)

pub commands_are : (names : List (List ℕ)) (ons : List On) (ls : List OnLine) → AreLines names ls ons → map opened (apdu_patterns ls) ≡ map opened_plain (command_patterns ons)
commands_are names [] [] h = refl
commands_are names [] (l ∷ ls) h = absurd h
commands_are names (on ∷ ons) [] h = command_first (deed_of on.effect) names [] on ons (command_patterns ons) (commands_are names ons) h
commands_are names (on ∷ ons) (l ∷ ls) h = command_first (deed_of on.effect) names (l ∷ ls) on ons (command_patterns ons) (commands_are names ons) h

-- the classes of the headers of these patterns
pub classes_alike : (names : List (List ℕ)) (a : AppRules) (ons : List On) (hs : List between.Header) → AreLines names a.ons ons
    → hs ≡ headers_from (map opened_plain (command_patterns ons)) → between.classes a ≡ classes_onto any_count hs []
classes_alike names a ons hs h e =
    classes_are (between.headers (apdu_patterns a.ons))
    ∙ ap (λ (ks : List between.Header). classes_onto any_count ks []) (headers_are (apdu_patterns a.ons) ∙ ap (λ (o : Opens). headers_from o) (commands_are names ons a.ons h) ∙ sym e)

-- ---- results

result_trigger : (t : Trigger) (on : On) (ps rest : List (List ℕ)) → IsTrigger t on → map opened ps ≡ map opened_plain rest
    → map opened (pattern_of_result t ps) ≡ map opened_plain (cond (has_result on.event) (on.result.items ∷ rest) rest)
result_trigger (AtTurn p) on ps rest h e = e ∙ sym (ap (λ (v : Event). map opened_plain (cond (has_result v) (on.result.items ∷ rest) rest)) h.0)
result_trigger (AtCommand p) on ps rest h e = e ∙ sym (ap (λ (v : Event). map opened_plain (cond (has_result v) (on.result.items ∷ rest) rest)) h.0)
result_trigger (AtAnswer p q) on ps rest h e =
    ap (λ (os : Opens). opened q ∷ os) e ∙ sym (ap (λ (r : List ℕ). opened_plain r ∷ map opened_plain rest) h.2)
    ∙ sym (ap (λ (v : Event). map opened_plain (cond (has_result v) (on.result.items ∷ rest) rest)) h.0)
result_trigger AtSession on ps rest h e = e ∙ sym (ap (λ (v : Event). map opened_plain (cond (has_result v) (on.result.items ∷ rest) rest)) h)

result_first : (d : Option (Action × ℕ)) (names : List (List ℕ)) (ls : List OnLine) (on : On) (ons : List On) (rest : List (List ℕ))
    → ((ms : List OnLine) → AreLines names ms ons → map opened (arrivals.result_patterns ms) ≡ map opened_plain rest) → FirstLine d names ls on (λ ms. AreLines names ms ons)
    → map opened (arrivals.result_patterns ls) ≡ map opened_plain (cond (is_some d && has_result on.event) (on.result.items ∷ rest) rest)
result_first None names ls on ons rest ih h = ih ls h
result_first (Some deed) names [] on ons rest ih h = absurd h
result_first (Some deed) names (l ∷ ls) on ons rest ih h = result_trigger l.trigger on (arrivals.result_patterns ls) rest h.0.trigger (ih ls h.1)

pub results_are : (names : List (List ℕ)) (ons : List On) (ls : List OnLine) → AreLines names ls ons → map opened (arrivals.result_patterns ls) ≡ map opened_plain (result_patterns ons)
results_are names [] [] h = refl
results_are names [] (l ∷ ls) h = absurd h
results_are names (on ∷ ons) [] h = result_first (deed_of on.effect) names [] on ons (result_patterns ons) (results_are names ons) h
results_are names (on ∷ ons) (l ∷ ls) h = result_first (deed_of on.effect) names (l ∷ ls) on ons (result_patterns ons) (results_are names ons) h
