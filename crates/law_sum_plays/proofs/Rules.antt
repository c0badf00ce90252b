-- The rules of an exploration are those that are read of the same deck without its moves.
use Rattle.std.proofs.Common.{◌≡◌, ℕ, Bool, true, false, List, [], ◌∷◌, Option, Some, None, Result, Ok, Err, refl, ap, subst, ◌∙◌}
use Rattle.std.specs.Prelude.{⊤, is_some, IfOk}
use Rattle.law_prove_closed.specs.model_text.specs.Text.{◌>>=◌, err_as, only_if, lines, with_numbers, fields}
use Rattle.law_prove_closed.specs.model_play.specs.declared.deck.DeckCause.{DeckCause}
use Rattle.law_prove_closed.specs.model_play.specs.DeckGrammar.{DeckLine, deck_read}
use Rattle.law_histories.specs.law_family.proofs.AssembledBytes.{bind_ok, err_ok, only_ok, any_ok}
use Rattle.law_histories.specs.law_explore.specs.Rules.{Move, is_some_of}
use Rattle.law_prove_closed.specs.model_play.specs.RuleLines.{marked_lines}
use Rattle.law_prove_closed.specs.model_rules.specs.Rules.{AppRules, Target, no_app_rules}
use Rattle.law_prove_closed.specs.model_rule_text.specs.Reading.{RuleCause, Deck, NoApplication, LoadLine, load_names, loads_of, app_line, app_rules_from, app_rules_read, with_some_app}
use Rattle.law_histories.specs.Histories.{AppExploration, AppFault, LineFault, NoMove, NoRule, app_exploration_read, can_break, line_fault, parts_from, tested, with_move_line}

itself : {A E : Type 0} (d : Result A E) → IfOk d (λ a. d ≡ Ok a)
itself (Ok a) = refl
itself (Err e) = tt

weaker_ok : {A E : Type 0} (P Q : A → Type 0) (x : Result A E) → ((a : A) → P a → Q a) → IfOk x P → IfOk x Q
weaker_ok P Q (Ok a) f h = f a h
weaker_ok P Q (Err e) f h = tt

-- the rules of these lines, read without their moves
abbrev ReadAs : List (List ℕ × LoadLine) → AppRules → List (ℕ × List ℕ) → AppRules × List Move → Type 0
ReadAs loads r ls p = app_rules_from loads r ls ≡ Ok p.0

parts_rules : (loads : List (List ℕ × LoadLine)) (r : AppRules) (ms : List Move) (ls : List (ℕ × List ℕ)) → IfOk (parts_from loads r ms ls) (ReadAs loads r ls)
unfolding parts_from app_rules_from
parts_rules loads r ms [] = refl
parts_rules loads r ms (l ∷ ls) =
    let one : Result AppRules (ℕ × RuleCause) = err_as (λ c. (l.0, c)) (app_line loads r l.0 (fields l.1)) in
    bind_ok one (λ s. err_as (λ c. (l.0, c)) (with_move_line ms l (fields l.1)) >>= λ ns. parts_from loads s ns ls) (λ s. one ≡ Ok s) (ReadAs loads r (l ∷ ls)) (itself one)
    (λ s e. bind_ok (err_as (λ c. (l.0, c)) (with_move_line ms l (fields l.1))) (λ ns. parts_from loads s ns ls) (λ ns. ⊤) (ReadAs loads r (l ∷ ls)) (any_ok (err_as (λ c. (l.0, c)) (with_move_line ms l (fields l.1))))
    (λ ns k. weaker_ok (ReadAs loads s ls) (ReadAs loads r (l ∷ ls)) (parts_from loads s ns ls) (λ p f. ap (λ (z : Result AppRules (ℕ × RuleCause)). z >>= λ q. app_rules_from loads q ls) e ∙ f) (parts_rules loads s ns ls)))

read_by : (text : List ℕ) (ls : List (ℕ × DeckLine)) (r : AppRules) → deck_read text ≡ Ok ls
    → app_rules_from (loads_of (load_names false (with_numbers 1 (lines text))) ls) no_app_rules (marked_lines false (with_numbers 1 (lines text))) ≡ Ok r → is_some r.target ≡ true → app_rules_read text ≡ Ok r
unfolding app_rules_read
read_by text ls r e f g =
    let numbered = with_numbers 1 (lines text) in
    ap (λ (d : Result (List (ℕ × DeckLine)) (ℕ × DeckCause)). err_as (λ c. (c.0, Deck c.1)) d >>= λ ks. app_rules_from (loads_of (load_names false numbered) ks) no_app_rules (marked_lines false numbered) >>= with_some_app) e
    ∙ (ap (λ (z : Result AppRules (ℕ × RuleCause)). z >>= with_some_app) f ∙ ap (λ (b : Bool). only_if b (0, NoApplication) r) g)

-- an exploration has rules that are read so
abbrev HasRules : List ℕ → AppExploration → Type 0
HasRules text x = app_rules_read text ≡ Ok x.rules

tested_rules : (text : List ℕ) (ls : List (ℕ × DeckLine)) (ms : List Move) (r : AppRules) (o : Option Target) → r.target ≡ o → (is_some r.target ≡ true → app_rules_read text ≡ Ok r) → IfOk (tested ls ms r o) (HasRules text)
tested_rules text ls ms r None f h = tt
tested_rules text ls ms r (Some g) f h =
    bind_ok (only_if (is_some_of ms) NoMove ms) (λ ns. only_if (can_break r) NoRule r >>= λ s. Ok (record { lines = ls; moves = ns; rules = s; target = g })) (λ ns. ⊤) (HasRules text)
    (any_ok (only_if (is_some_of ms) NoMove ms))
    (λ ns k. bind_ok (only_if (can_break r) NoRule r) (λ s. Ok (record { lines = ls; moves = ns; rules = s; target = g })) (λ s. app_rules_read text ≡ Ok s) (HasRules text)
    (only_ok (can_break r) NoRule r (λ s. app_rules_read text ≡ Ok s) (λ i. h (ap (λ (t : Option Target). is_some t) f))) (λ s i. i))

rules_is : (text : List ℕ) → IfOk (app_exploration_read text) (HasRules text)
unfolding app_exploration_read
rules_is text =
    let numbered = with_numbers 1 (lines text) in
    bind_ok (err_as (λ e. LineFault e.0 (Deck e.1)) (deck_read text)) (λ ls. err_as line_fault (parts_from (loads_of (load_names false numbered) ls) no_app_rules [] (marked_lines false numbered)) >>= λ p. tested ls p.1 p.0 p.0.target) (λ ls. deck_read text ≡ Ok ls) (HasRules text)
    (err_ok (λ e. LineFault e.0 (Deck e.1)) (deck_read text) (λ ls. deck_read text ≡ Ok ls) (itself (deck_read text)))
    (λ ls e. bind_ok (err_as line_fault (parts_from (loads_of (load_names false numbered) ls) no_app_rules [] (marked_lines false numbered))) (λ p. tested ls p.1 p.0 p.0.target) (ReadAs (loads_of (load_names false numbered) ls) no_app_rules (marked_lines false numbered)) (HasRules text)
    (err_ok line_fault (parts_from (loads_of (load_names false numbered) ls) no_app_rules [] (marked_lines false numbered)) (ReadAs (loads_of (load_names false numbered) ls) no_app_rules (marked_lines false numbered)) (parts_rules (loads_of (load_names false numbered) ls) no_app_rules [] (marked_lines false numbered)))
    (λ p f. tested_rules text ls p.1 p.0 p.0.target refl (λ g. read_by text ls p.0 e f g)))

-- the rules of an exploration are those of the same deck without its moves
pub same_rules : (text : List ℕ) (x : AppExploration) → app_exploration_read text ≡ Ok x → app_rules_read text ≡ Ok x.rules
same_rules text x e = subst (λ (z : Result AppExploration AppFault). IfOk z (HasRules text)) e (rules_is text)
