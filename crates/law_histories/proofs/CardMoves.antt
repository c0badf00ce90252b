-- The moves of a deck with the rules of one application are lines to the card, its lines are those of the deck, and a line
-- of the deck is refused first.
use Rattle.std.specs.Prelude.{◌≡◌, ℕ, Bool, true, false, cond, List, [], ◌∷◌, ◌++◌, bytes_eq, codes, Option, Some, None, Result, Ok, Err, ⊤, refl}
use Rattle.std.specs.List.{AllByRecursion}
use Rattle.std.proofs.Common.{ap, subst}
use Rattle.law_explore_text.specs.model_device.proofs.ImageLemmas.{all_append}
use Rattle.law_explore_text.specs.model_text.specs.Text.{◌>>=◌, ok_as, err_as, only_if, lines, with_numbers, fields}
use Rattle.law_explore_text.specs.model_play.specs.declared.deck.DeckCause.{DeckCause}
use Rattle.law_explore_text.specs.model_play.specs.DeckGrammar.{DeckLine, deck_read}
use Rattle.law_explore_text.specs.law_explore.specs.Rules.{Move, is_some_of, move_line, without_field}
use Rattle.law_explore_text.specs.model_play.specs.RuleLines.{marked_lines}
use Rattle.law_explore_text.specs.law_explore.proofs.ReadRules.{AreMoves, IsCardLine, any_goes, as_goes, err_goes, line_of_move, only_goes}
use Rattle.law_explore_text.specs.law_explore.proofs.Searches.{IfGoesOn, goes_on}
use Rattle.law_rules.specs.model_rules.specs.Rules.{AppRules, Target, no_app_rules}
use Rattle.law_rules.specs.model_rule_text.specs.Reading.{Deck, LoadLine, app_line, load_names, loads_of}
use Rattle.law_histories.specs.Histories.{AppExploration, AppFault, LineFault, NoMove, NoRule, app_exploration_read, can_break, line_fault, parts_from, tested, with_move_line}

-- ---- results

cond_goes : {A E : Type 0} (P : A → Type 0) (b : Bool) (x y : Result A E) → IfGoesOn P x → IfGoesOn P y → IfGoesOn P (cond b x y)
cond_goes P true x y h g = h
cond_goes P false x y h g = g

itself : {A E : Type 0} (d : Result A E) → IfGoesOn (λ a. d ≡ Ok a) d
itself (Ok a) = refl
itself (Err e) = tt

-- ---- what was read

-- this holds of the line of each move
abbrev pub HaveLines : (DeckLine → Type 0) → List Move → Type 0
HaveLines P ms = AllByRecursion (λ m. P m.line) ms

-- what was read of a text, of whose moves this holds
pub record IsReadFrom (P : DeckLine → Type 0) (text : List ℕ) (x : AppExploration) : Type 0 where
  pub lines : deck_read text ≡ Ok x.lines
  pub target : x.rules.target ≡ Some x.target
  pub moves : HaveLines P x.moves

-- what holds of the line of every move holds of those that were read
module _ (P : DeckLine → Type 0) (states : (n : ℕ) (fs : List (List ℕ)) → IfGoesOn P (move_line n fs)) where
  moves_with : (ms : List Move) (l : ℕ × List ℕ) (fs : List (List ℕ)) → HaveLines P ms → IfGoesOn (HaveLines P) (with_move_line ms l fs)
  moves_with ms l [] h = h
  moves_with ms l (mark ∷ []) h = h
  moves_with ms l (mark ∷ word ∷ rest) h =
      let add : DeckLine → List Move = λ d. ms ++ record { number = l.0; text = without_field (without_field l.1); line = d } ∷ [] in
      cond_goes (HaveLines P) (bytes_eq word (codes "move")) (err_as Deck (ok_as add (move_line l.0 rest))) (Ok ms)
      (err_goes (HaveLines P) Deck (ok_as add (move_line l.0 rest))
      (as_goes P (HaveLines P) add (move_line l.0 rest) (λ d g. all_append (λ m. P m.line) ms (record { number = l.0; text = without_field (without_field l.1); line = d } ∷ []) h (g, tt)) (states l.0 rest)))
      h

  parts_have : (loads : List (List ℕ × LoadLine)) (r : AppRules) (ms : List Move) (ls : List (ℕ × List ℕ)) → HaveLines P ms → IfGoesOn (λ p. HaveLines P p.1) (parts_from loads r ms ls)
  unfolding parts_from
  parts_have loads r ms [] h = h
  parts_have loads r ms (l ∷ ls) h =
      goes_on (λ s. ⊤) (λ p. HaveLines P p.1) (err_as (λ c. (l.0, c)) (app_line loads r l.0 (fields l.1))) _ (any_goes (err_as (λ c. (l.0, c)) (app_line loads r l.0 (fields l.1))))
      (λ s g. goes_on (HaveLines P) (λ p. HaveLines P p.1) (err_as (λ c. (l.0, c)) (with_move_line ms l (fields l.1))) (λ ns. parts_from loads s ns ls) (err_goes (HaveLines P) (λ c. (l.0, c)) (with_move_line ms l (fields l.1)) (moves_with ms l (fields l.1) h))
      (λ ns k. parts_have loads s ns ls k))

  tested_read : (text : List ℕ) (ls : List (ℕ × DeckLine)) (ms : List Move) (r : AppRules) (o : Option Target) → deck_read text ≡ Ok ls → r.target ≡ o → HaveLines P ms → IfGoesOn (IsReadFrom P text) (tested ls ms r o)
  tested_read text ls ms r None e f h = tt
  tested_read text ls ms r (Some g) e f h =
      goes_on (HaveLines P) (IsReadFrom P text) (only_if (is_some_of ms) NoMove ms) _ (only_goes (HaveLines P) (is_some_of ms) NoMove ms h)
      (λ ns k. goes_on (λ s. s.target ≡ Some g) (IsReadFrom P text) (only_if (can_break r) NoRule r) (λ s. Ok (record { lines = ls; moves = ns; rules = s; target = g })) (only_goes (λ s. s.target ≡ Some g) (can_break r) NoRule r f)
      (λ s i. record { lines = e; target = i; moves = k }))

  read_is : (text : List ℕ) → IfGoesOn (IsReadFrom P text) (app_exploration_read text)
  unfolding app_exploration_read
  read_is text =
      let numbered = with_numbers 1 (lines text) in
      goes_on (λ ls. deck_read text ≡ Ok ls) (IsReadFrom P text) (err_as (λ e. LineFault e.0 (Deck e.1)) (deck_read text)) _ (err_goes (λ ls. deck_read text ≡ Ok ls) (λ e. LineFault e.0 (Deck e.1)) (deck_read text) (itself (deck_read text)))
      (λ ls e. goes_on (λ p. HaveLines P p.1) (IsReadFrom P text) (err_as line_fault (parts_from (loads_of (load_names false numbered) ls) no_app_rules [] (marked_lines false numbered))) (λ p. tested ls p.1 p.0 p.0.target)
      (err_goes (λ p. HaveLines P p.1) line_fault (parts_from (loads_of (load_names false numbered) ls) no_app_rules [] (marked_lines false numbered)) (parts_have (loads_of (load_names false numbered) ls) no_app_rules [] (marked_lines false numbered) tt))
      (λ p h. tested_read text ls p.1 p.0 p.0.target e refl h))

  pub read_from : (text : List ℕ) (x : AppExploration) → app_exploration_read text ≡ Ok x → IsReadFrom P text x
  read_from text x e = subst (λ z. IfGoesOn (IsReadFrom P text) z) e (read_is text)

-- each move of a deck that was read is a line to the card
pub cards_of : (text : List ℕ) (x : AppExploration) → app_exploration_read text ≡ Ok x → AreMoves x.moves
cards_of text x e = (read_from IsCardLine line_of_move text x e).moves

-- ---- refusals

-- the refusal of a line of the deck
abbrev fault_of : ℕ × DeckCause → Result AppExploration AppFault
fault_of e = Err (LineFault e.0 (Deck e.1))

refused_by : (text : List ℕ) (d : Result (List (ℕ × DeckLine)) (ℕ × DeckCause)) (e : ℕ × DeckCause) → d ≡ Err e
    → (err_as (λ e. LineFault e.0 (Deck e.1)) d >>= λ ls. err_as line_fault (parts_from (loads_of (load_names false (with_numbers 1 (lines text))) ls) no_app_rules [] (marked_lines false (with_numbers 1 (lines text)))) >>= λ p. tested ls p.1 p.0 p.0.target)
    ≡ Err (LineFault e.0 (Deck e.1))
refused_by text (Ok ls) e h = absurd (cc h)
refused_by text (Err f) e h = let same : f ≡ e = cc h in ap fault_of same

-- a deck that is refused is refused first
pub deck_first : (text : List ℕ) (e : ℕ × DeckCause) → deck_read text ≡ Err e → app_exploration_read text ≡ Err (LineFault e.0 (Deck e.1))
unfolding app_exploration_read
deck_first text e h = refused_by text (deck_read text) e h
