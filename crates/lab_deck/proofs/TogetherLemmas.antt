-- The rules and the moves of a deck, read together and each alone.
use Rattle.std.proofs.Common.{◌≡◌, ◌<◌, ◌≤◌, ℕ, suc, List, [], ◌∷◌, Bool, true, false, cond, not, Option, Some, None, Result, Ok, Err, arith, refl, sym, ap, subst, ◌∙◌}
use Rattle.std.specs.Prelude.{nat_lt, ⊤, ◌==◌, ◌&&◌, ◌||◌, bytes_eq, codes, is_some, ok_or}
use Rattle.mc_words.specs.model_device.specs.Bytes.{lookup}
use Rattle.mc_text.specs.model_text.specs.Text.{◌>>=◌, err_as, fields, lines, only_if, with_numbers}
use Rattle.mc_deck.specs.model_play.specs.declared.deck.DeckCause.{DeckCause}
use Rattle.mc_deck.specs.model_play.specs.declared.deck.DeckCause.TheVariants.{BadLine}
use Rattle.mc_deck.specs.model_play.specs.DeckGrammar.{deck_read, DeckLine}
use Rattle.law_histories.specs.law_explore.specs.Rules as model
use Rattle.mc_deck.specs.model_play.specs.RuleLines.{is_marked, line_if, marked_lines}
use Rattle.mc_text.specs.model_text.specs.Text.{stays_inside}
use Rattle.prove_facts.specs.model_rules.specs.Rules.{no_app_rules, AppRules, Target}
use Rattle.law_histories.specs.model_rule_text.specs.Reading.{Deck, LoadLine, NoApplication, RuleCause, app_line, app_rule, app_rules_from, app_rules_read, app_words, load_names, loads_of, with_some_app}
use Rattle.law_histories.specs.Histories.{app_exploration_read, line_fault, parts_from, tested, with_move_line, AppExploration, AppFault, LineFault}
use Rattle.lab_deck.specs.Moves.{moves_from, moves_read, with_move, with_move_of}

abbrev Loads : Type 0
Loads = List (List ℕ × LoadLine)

-- ---- moves and rules, line by line

word_by : (loads : Loads) (r : AppRules) (ms : List model.Move) (l : ℕ × List ℕ) (mark word : List ℕ) (rest : List (List ℕ)) (s : AppRules) (b c : Bool) → bytes_eq mark (codes "#@") ≡ b → bytes_eq word (codes "move") ≡ c
    → (cond b (ok_or (lookup app_words word) (Deck BadLine)) (Err (Deck BadLine)) >>= λ w. app_rule loads r l.0 w rest) ≡ Ok s
    → cond c (err_as Deck (with_move ms l rest)) (Ok ms) ≡ err_as Deck (cond (b && c) (with_move ms l rest) (Ok ms))
word_by loads r ms l mark word rest s false c e f h = absurd (cc h)
word_by loads r ms l mark word rest s true true e f h = refl
word_by loads r ms l mark word rest s true false e f h = refl

-- a move of a line that is a rule
move_is : (loads : Loads) (r : AppRules) (ms : List model.Move) (l : ℕ × List ℕ) (fs : List (List ℕ)) (s : AppRules) → app_line loads r l.0 fs ≡ Ok s → with_move_line ms l fs ≡ err_as Deck (with_move_of ms l fs)
move_is loads r ms l [] s h = absurd (cc h)
move_is loads r ms l (mark ∷ []) s h = absurd (cc h)
move_is loads r ms l (mark ∷ word ∷ rest) s h = word_by loads r ms l mark word rest s (bytes_eq mark (codes "#@")) (bytes_eq word (codes "move")) refl refl h

parts_step : (loads : Loads) (r : AppRules) (ms : List model.Move) (l : ℕ × List ℕ) (ls : List (ℕ × List ℕ))
    → parts_from loads r ms (l ∷ ls) ≡ (err_as (λ c. (l.0, c)) (app_line loads r l.0 (fields l.1)) >>= λ s. err_as (λ c. (l.0, c)) (with_move_line ms l (fields l.1)) >>= λ ns. parts_from loads s ns ls)
unfolding parts_from
parts_step loads r ms l ls = refl

moves_next : (ms : List model.Move) (l : ℕ × List ℕ) (ls : List (ℕ × List ℕ)) → moves_from ms (l ∷ ls) ≡ (err_as (λ e. (l.0, e)) (with_move_of ms l (fields l.1)) >>= λ ns. moves_from ns ls)
unfolding moves_from
moves_next ms l ls = refl

rules_next : (loads : Loads) (r : AppRules) (l : ℕ × List ℕ) (ls : List (ℕ × List ℕ)) → app_rules_from loads r (l ∷ ls) ≡ (err_as (λ c. (l.0, c)) (app_line loads r l.0 (fields l.1)) >>= λ s. app_rules_from loads s ls)
unfolding app_rules_from
rules_next loads r l ls = refl

rules_end : (loads : Loads) (r : AppRules) → app_rules_from loads r [] ≡ Ok r
unfolding app_rules_from
rules_end loads r = refl

moves_end : (ms : List model.Move) → moves_from ms [] ≡ Ok ms
unfolding moves_from
moves_end ms = refl

parts_end : (loads : Loads) (r : AppRules) (ms : List model.Move) → parts_from loads r ms [] ≡ Ok (r, ms)
unfolding parts_from
parts_end loads r ms = refl

-- ---- numbers of lines

less : (a b : ℕ) → a < b → nat_lt a b ≡ true
less a b h = grind (arith, h)

not_less : (a b : ℕ) → a ≤ b → nat_lt b a ≡ false
not_less a b h = grind (arith, h)

-- the numbers of lines ascend, from a number on
abbrev Ascend : ℕ → List (ℕ × List ℕ) → Type 0
Ascend n [] = ⊤
Ascend n (l ∷ ls) = (n ≤ l.0) × Ascend (suc l.0) ls

ascend_from : (n m : ℕ) (ls : List (ℕ × List ℕ)) → n ≤ m → Ascend m ls → Ascend n ls
ascend_from n m [] h a = tt
ascend_from n m (l ∷ ls) h a = let k = a.0 in (omega (arith, h, k), a.1)

ascend_if : (b : Bool) (n : ℕ) (l : List ℕ) (ls : List (ℕ × List ℕ)) → Ascend (suc n) ls → Ascend n (line_if b (n, l) ls)
ascend_if true n l ls a = (omega arith, a)
ascend_if false n l ls a = ascend_from n (suc n) ls (omega arith) a

-- those of a text ascend
marked_ascend : (inside : Bool) (n : ℕ) (ls : List (List ℕ)) → Ascend n (marked_lines inside (with_numbers n ls))
unfolding marked_lines
marked_ascend inside n [] = tt
marked_ascend inside n (l ∷ ls) =
    ascend_if (not inside && is_marked (fields l)) n l (marked_lines (stays_inside inside (fields l)) (with_numbers (suc n) ls)) (marked_ascend (stays_inside inside (fields l)) (suc n) ls)

-- a refusal has a number of these lines
late_rule_by : (loads : Loads) (n : ℕ) (l : ℕ × List ℕ) (ls : List (ℕ × List ℕ)) (e : ℕ × RuleCause) (x : Result AppRules RuleCause) → n ≤ l.0 → ((s : AppRules) → app_rules_from loads s ls ≡ Err e → suc l.0 ≤ e.0)
    → (err_as (λ c. (l.0, c)) x >>= λ s. app_rules_from loads s ls) ≡ Err e → n ≤ e.0
late_rule_by loads n l ls e (Ok s) low again h = let k : suc l.0 ≤ e.0 = again s h in omega (arith, low, k)
late_rule_by loads n l ls e (Err c) low again h = let same : (l.0, c) ≡ e = cc h in subst (λ (p : ℕ × RuleCause). n ≤ p.0) same low

late_rule : (loads : Loads) (n : ℕ) (r : AppRules) (ls : List (ℕ × List ℕ)) (e : ℕ × RuleCause) → Ascend n ls → app_rules_from loads r ls ≡ Err e → n ≤ e.0
late_rule loads n r [] e a h = absurd (cc (sym (rules_end loads r) ∙ h))
late_rule loads n r (l ∷ ls) e a h = late_rule_by loads n l ls e (app_line loads r l.0 (fields l.1)) a.0 (λ s i. late_rule loads (suc l.0) s ls e a.1 i) (sym (rules_next loads r l ls) ∙ h)

late_move_by : (n : ℕ) (l : ℕ × List ℕ) (ls : List (ℕ × List ℕ)) (e : ℕ × DeckCause) (x : Result (List model.Move) DeckCause) → n ≤ l.0 → ((ns : List model.Move) → moves_from ns ls ≡ Err e → suc l.0 ≤ e.0)
    → (err_as (λ c. (l.0, c)) x >>= λ ns. moves_from ns ls) ≡ Err e → n ≤ e.0
late_move_by n l ls e (Ok ns) low again h = let k : suc l.0 ≤ e.0 = again ns h in omega (arith, low, k)
late_move_by n l ls e (Err c) low again h = let same : (l.0, c) ≡ e = cc h in subst (λ (p : ℕ × DeckCause). n ≤ p.0) same low

late_move : (n : ℕ) (ms : List model.Move) (ls : List (ℕ × List ℕ)) (e : ℕ × DeckCause) → Ascend n ls → moves_from ms ls ≡ Err e → n ≤ e.0
late_move n ms [] e a h = absurd (cc (sym (moves_end ms) ∙ h))
late_move n ms (l ∷ ls) e a h = late_move_by n l ls e (with_move_of ms l (fields l.1)) a.0 (λ ns i. late_move (suc l.0) ns ls e a.1 i) (sym (moves_next ms l ls) ∙ h)

-- ---- moves and rules, each read alone

-- the refusal of a move
abbrev pub as_rule : ℕ × DeckCause → ℕ × RuleCause
as_rule e = (e.0, Deck e.1)

-- the refusal of a rule, or that of a move of a line before it
abbrev pub first_fault : ℕ × RuleCause → Result (List model.Move) (ℕ × DeckCause) → ℕ × RuleCause
first_fault e (Ok ns) = e
first_fault e (Err f) = cond (nat_lt f.0 e.0) (as_rule f) e

-- the rules and the moves of the same lines
abbrev pub together : Result AppRules (ℕ × RuleCause) → Result (List model.Move) (ℕ × DeckCause) → Result (AppRules × List model.Move) (ℕ × RuleCause)
together (Ok a) (Ok ns) = Ok (a, ns)
together (Ok a) (Err f) = Err (as_rule f)
together (Err e) y = Err (first_fault e y)

-- no move is refused before a rule
rule_first : (e : ℕ × RuleCause) (y : Result (List model.Move) (ℕ × DeckCause)) → ((f : ℕ × DeckCause) → y ≡ Err f → e.0 ≤ f.0) → first_fault e y ≡ e
rule_first e (Ok ns) h = refl
rule_first e (Err f) h = ap (λ b. cond b (as_rule f) e) (not_less e.0 f.0 (h f refl))

-- no rule is refused before a move
move_first : (x : Result AppRules (ℕ × RuleCause)) (f : ℕ × DeckCause) → ((e : ℕ × RuleCause) → x ≡ Err e → suc f.0 ≤ e.0) → together x (Err f) ≡ Err (as_rule f)
move_first (Ok a) f h = refl
move_first (Err e) f h = ap (λ b. Err (cond b (as_rule f) e)) (less f.0 e.0 (h e refl))

moves_by : (loads : Loads) (s : AppRules) (n : ℕ) (ls : List (ℕ × List ℕ)) (y : Result (List model.Move) DeckCause) → ((ns : List model.Move) → parts_from loads s ns ls ≡ together (app_rules_from loads s ls) (moves_from ns ls))
    → ((e : ℕ × RuleCause) → app_rules_from loads s ls ≡ Err e → suc n ≤ e.0)
    → (err_as (λ c. (n, c)) (err_as Deck y) >>= λ ns. parts_from loads s ns ls) ≡ together (app_rules_from loads s ls) (err_as (λ e. (n, e)) y >>= λ ns. moves_from ns ls)
moves_by loads s n ls (Ok ns) again late = again ns
moves_by loads s n ls (Err d) again late = sym (move_first (app_rules_from loads s ls) (n, d) late)

line_by : (loads : Loads) (r : AppRules) (ms : List model.Move) (l : ℕ × List ℕ) (ls : List (ℕ × List ℕ)) (x : Result AppRules RuleCause) → app_line loads r l.0 (fields l.1) ≡ x → Ascend (suc l.0) ls
    → ((s : AppRules) (ns : List model.Move) → parts_from loads s ns ls ≡ together (app_rules_from loads s ls) (moves_from ns ls))
    → (err_as (λ c. (l.0, c)) x >>= λ s. err_as (λ c. (l.0, c)) (with_move_line ms l (fields l.1)) >>= λ ns. parts_from loads s ns ls)
    ≡ together (err_as (λ c. (l.0, c)) x >>= λ s. app_rules_from loads s ls) (moves_from ms (l ∷ ls))
line_by loads r ms l ls (Err c) e a again = sym (ap Err (rule_first (l.0, c) (moves_from ms (l ∷ ls)) (λ f h. late_move l.0 ms (l ∷ ls) f (omega arith, a) h)))
line_by loads r ms l ls (Ok s) e a again =
    ap (λ y. err_as (λ c. (l.0, c)) y >>= λ ns. parts_from loads s ns ls) (move_is loads r ms l (fields l.1) s e)
    ∙ moves_by loads s l.0 ls (with_move_of ms l (fields l.1)) (again s) (λ f h. late_rule loads (suc l.0) s ls f a h)
    ∙ ap (together (app_rules_from loads s ls)) (sym (moves_next ms l ls))

-- the rules and the moves of lines are those that are read alone, up to the first refusal
parts_are : (loads : Loads) (n : ℕ) (r : AppRules) (ms : List model.Move) (ls : List (ℕ × List ℕ)) → Ascend n ls → parts_from loads r ms ls ≡ together (app_rules_from loads r ls) (moves_from ms ls)
parts_are loads n r ms [] a = parts_end loads r ms ∙ sym (ap (λ x. together x (moves_from ms [])) (rules_end loads r) ∙ ap (together (Ok r)) (moves_end ms))
parts_are loads n r ms (l ∷ ls) a =
    parts_step loads r ms l ls
    ∙ line_by loads r ms l ls (app_line loads r l.0 (fields l.1)) refl a.1 (λ s ns. parts_are loads (suc l.0) s ns ls a.1)
    ∙ ap (λ x. together x (moves_from ms (l ∷ ls))) (sym (rules_next loads r l ls))

-- ---- a deck that is read

abbrev loads_by : List ℕ → List (ℕ × DeckLine) → Loads
loads_by text d = loads_of (load_names false (with_numbers 1 (lines text))) d

-- the rules of all lines
abbrev pub rules_by : List ℕ → List (ℕ × DeckLine) → Result AppRules (ℕ × RuleCause)
rules_by text d = app_rules_from (loads_by text d) no_app_rules (marked_lines false (with_numbers 1 (lines text)))

rules_whole : (text : List ℕ) → app_rules_read text ≡ (err_as (λ e. (e.0, Deck e.1)) (deck_read text) >>= λ ls. rules_by text ls >>= with_some_app)
unfolding app_rules_read
rules_whole text = refl

rules_of : (text : List ℕ) (d : List (ℕ × DeckLine)) → deck_read text ≡ Ok d → app_rules_read text ≡ (rules_by text d >>= with_some_app)
rules_of text d e = rules_whole text ∙ ap (λ x. err_as (λ e. (e.0, Deck e.1)) x >>= λ ls. rules_by text ls >>= with_some_app) e

-- a deck with its parts
abbrev pub from_parts : List (ℕ × DeckLine) → Result (AppRules × List model.Move) (ℕ × RuleCause) → Result AppExploration AppFault
from_parts d x = err_as line_fault x >>= λ p. tested d p.1 p.0 p.0.target

exploration_whole : (text : List ℕ)
    → app_exploration_read text ≡ (err_as (λ e. LineFault e.0 (Deck e.1)) (deck_read text) >>= λ ls. from_parts ls (parts_from (loads_by text ls) no_app_rules [] (marked_lines false (with_numbers 1 (lines text)))))
unfolding app_exploration_read
exploration_whole text = refl

moves_whole : (text : List ℕ) → moves_read text ≡ moves_from [] (marked_lines false (with_numbers 1 (lines text)))
unfolding moves_read
moves_whole text = refl

-- a deck is explored by its rules and by its moves
pub exploration_is : (text : List ℕ) (d : List (ℕ × DeckLine)) → deck_read text ≡ Ok d → app_exploration_read text ≡ from_parts d (together (rules_by text d) (moves_read text))
exploration_is text d e =
    exploration_whole text
    ∙ ap (λ x. err_as (λ e. LineFault e.0 (Deck e.1)) x >>= λ ls. from_parts ls (parts_from (loads_by text ls) no_app_rules [] (marked_lines false (with_numbers 1 (lines text))))) e
    ∙ ap (from_parts d) (parts_are (loads_by text d) 1 no_app_rules [] (marked_lines false (with_numbers 1 (lines text))) (marked_ascend false 1 (lines text)))
    ∙ ap (λ y. from_parts d (together (rules_by text d) y)) (sym (moves_whole text))

-- ---- rules that are read

app_by : (r a : AppRules) (b : Bool) → only_if {E = ℕ × RuleCause} b (0, NoApplication) r ≡ Ok a → r ≡ a
app_by r a true h = cc h
app_by r a false h = absurd (cc h)

rules_some : (x : Result AppRules (ℕ × RuleCause)) (a : AppRules) → (x >>= with_some_app) ≡ Ok a → x ≡ Ok a
rules_some (Ok r) a h = ap Ok (app_by r a (is_some r.target) h)
rules_some (Err e) a h = absurd (cc h)

-- where the rules of a deck are read, it is explored by them and by its moves
pub explored_by : (text : List ℕ) (d : List (ℕ × DeckLine)) (a : AppRules) → deck_read text ≡ Ok d → app_rules_read text ≡ Ok a → app_exploration_read text ≡ from_parts d (together (Ok a) (moves_read text))
explored_by text d a e h =
    exploration_is text d e ∙ ap (λ x. from_parts d (together x (moves_read text))) (rules_some (rules_by text d) a (sym (rules_of text d e) ∙ h))

-- ---- rules that are refused

none_by : (o : Option Target) → is_some o ≡ false → o ≡ None
none_by None h = refl
none_by (Some g) h = absurd (cc h)

-- of rules that are refused: a line of them, or no line names an application
pub data Refused (x : Result AppRules (ℕ × RuleCause)) (e : ℕ × RuleCause) : Type 0 where
  ByLine : x ≡ Err e → 1 ≤ e.0 → Refused x e
  Unnamed : (r : AppRules) → x ≡ Ok r → r.target ≡ None → e ≡ (0, NoApplication) → Refused x e

refused_some : (r : AppRules) (e : ℕ × RuleCause) (b : Bool) → is_some r.target ≡ b → only_if b (0, NoApplication) r ≡ Err e → Refused (Ok r) e
refused_some r e true i h = absurd (cc h)
refused_some r e false i h = Unnamed r refl (none_by r.target i) (let same : (0, NoApplication) ≡ e = cc h in sym same)

refused_in : (x : Result AppRules (ℕ × RuleCause)) (e : ℕ × RuleCause) → ((f : ℕ × RuleCause) → x ≡ Err f → 1 ≤ f.0) → (x >>= with_some_app) ≡ Err e → Refused x e
refused_in (Ok r) e late h = refused_some r e (is_some r.target) refl h
refused_in (Err f) e late h = let same : f ≡ e = cc h in ByLine (ap Err same) (subst (λ (p : ℕ × RuleCause). 1 ≤ p.0) same (late f refl))

refused_by : (text : List ℕ) (d : List (ℕ × DeckLine)) (e : ℕ × RuleCause) → deck_read text ≡ Ok d → app_rules_read text ≡ Err e → Refused (rules_by text d) e
refused_by text d e f h =
    refused_in (rules_by text d) e (λ g i. late_rule (loads_by text d) 1 no_app_rules (marked_lines false (with_numbers 1 (lines text))) g (marked_ascend false 1 (lines text)) i) (sym (rules_of text d f) ∙ h)

-- the refusal of a rule where the moves are read alone, and with line 0 after all lines
abbrev pub before_or : ℕ × RuleCause → Result (List model.Move) (ℕ × DeckCause) → ℕ × RuleCause
before_or e (Ok ns) = e
before_or e (Err f) = cond (nat_lt f.0 e.0 || e.0 == 0) (as_rule f) e

not_zero : (n : ℕ) → 1 ≤ n → (n == 0) ≡ false
not_zero n h = grind (arith, h)

or_false : (b c : Bool) → c ≡ false → (b || c) ≡ b
or_false true c h = refl
or_false false c h = h

or_true : (b : Bool) → (b || true) ≡ true
or_true true = refl
or_true false = refl

first_is : (e : ℕ × RuleCause) (y : Result (List model.Move) (ℕ × DeckCause)) → 1 ≤ e.0 → first_fault e y ≡ before_or e y
first_is e (Ok ns) h = refl
first_is e (Err f) h = ap (λ b. cond b (as_rule f) e) (sym (or_false (nat_lt f.0 e.0) (e.0 == 0) (not_zero e.0 h)))

unnamed_is : (d : List (ℕ × DeckLine)) (r : AppRules) (y : Result (List model.Move) (ℕ × DeckCause)) → r.target ≡ None → from_parts d (together (Ok r) y) ≡ Err (line_fault (before_or (0, NoApplication) y))
unnamed_is d r (Ok ns) h = ap (tested d ns r) h
unnamed_is d r (Err f) h = sym (ap (λ b. Err (line_fault (cond b (as_rule f) (0, NoApplication)))) (or_true (nat_lt f.0 0)))

refused_is : (d : List (ℕ × DeckLine)) (x : Result AppRules (ℕ × RuleCause)) (e : ℕ × RuleCause) (y : Result (List model.Move) (ℕ × DeckCause)) → Refused x e → from_parts d (together x y) ≡ Err (line_fault (before_or e y))
refused_is d x e y (ByLine i low) = ap (λ x. from_parts d (together x y)) i ∙ ap (λ f. Err (line_fault f)) (first_is e y low)
refused_is d x e y (Unnamed r i none same) =
    ap (λ x. from_parts d (together x y)) i ∙ unnamed_is d r y none ∙ ap (λ f. Err (line_fault (before_or f y))) (sym same)

-- where the rules of a deck are refused, so is the deck, at the first line
pub rules_refused : (text : List ℕ) (d : List (ℕ × DeckLine)) (e : ℕ × RuleCause) → deck_read text ≡ Ok d → app_rules_read text ≡ Err e → app_exploration_read text ≡ Err (line_fault (before_or e (moves_read text)))
rules_refused text d e f h = exploration_is text d f ∙ refused_is d (rules_by text d) e (moves_read text) (refused_by text d e f h)
