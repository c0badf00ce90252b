-- What holds of the line of every move; the moves of a deck that was read are lines to the card.
use Rattle.std.specs.Prelude.{◌≡◌, ℕ, Bool, true, false, cond, List, [], ◌∷◌, ◌++◌, is_none, is_some, bytes_eq, ok_or, Option, Some, None, Result, Ok, Err, ⊤, refl}
use Rattle.std.specs.List.{AllByRecursion}
use Rattle.std.proofs.Common.{subst, arith}
use Rattle.model_play.specs.model_device.specs.Bytes.{lookup}
use Rattle.model_play.specs.model_device.proofs.ImageLemmas.{all_append}
use Rattle.model_play.specs.model_text.specs.Text.{◌>>=◌, ok_as, err_as, only_if, lines, with_numbers, fields}
use Rattle.model_play.specs.declared.deck.DeckCause.{DeckCause}
use Rattle.model_play.specs.declared.deck.DeckCause.TheVariants.{BadLine}
use Rattle.model_play.specs.DeckGrammar.{DeckLine, Context, Says, Word, PowerWord, SelectWord, DeleteWord, ApduWord, statement_of, aid_field, hex_field, deck_read}
use Rattle.model_play.specs.DeckGrammar as line
use Rattle.model_play.specs.Play.{is_card_line}
use Rattle.law_explore.specs.Rules.{Move, Rules, no_rules, move_words, line_stated, move_line, occasion_words, effect_words, RuleWord, MoveWord, AllowWord, OnWord, rule_word, with_rule, with_line, rules_from, rules_read, Exploration, exploration_read, line_fault, tested_rules}
use Rattle.model_play.specs.RuleLines.{marked_lines, parts_of, full_parts, name_and_amount}
use Rattle.law_explore.proofs.Searches.{IfGoesOn, goes_on}

-- each move is a line to the card
abbrev pub AreMoves : List Move → Type 0
AreMoves ms = AllByRecursion (λ m. is_card_line m.line ≡ true) ms

-- ---- words

-- what holds of a value that was found
abbrev OnFound : {A : Type 0} → (A → Type 0) → Option A → Type 0
OnFound P None = ⊤
OnFound P (Some a) = P a

cond_found : {A : Type 0} (P : A → Type 0) (b : Bool) (a : A) (o : Option A) → P a → OnFound P o → OnFound P (cond b (Some a) o)
cond_found P true a o h g = h
cond_found P false a o h g = g

lookup_all : {A : Type 0} (P : A → Type 0) (es : List (List ℕ × A)) (n : List ℕ) → AllByRecursion (λ e. P e.1) es → OnFound P (lookup es n)
lookup_all P [] n h = tt
lookup_all P (e ∷ es) n h = cond_found P (bytes_eq e.0 n) e.1 (lookup es n) h.0 (lookup_all P es n h.1)

found_goes : {A E : Type 0} (P : A → Type 0) (o : Option A) (e : E) → OnFound P o → IfGoesOn P (ok_or o e)
found_goes P None e h = tt
found_goes P (Some a) e h = h

-- ---- answers

-- what holds of every value
pub all_go : {A E : Type 0} (P : A → Type 0) (x : Result A E) → ((a : A) → P a) → IfGoesOn P x
all_go P (Ok a) h = h a
all_go P (Err e) h = tt

pub any_goes : {A E : Type 0} (x : Result A E) → IfGoesOn (λ a. ⊤) x
any_goes (Ok a) = tt
any_goes (Err e) = tt

pub as_goes : {A B E : Type 0} (P : A → Type 0) (Q : B → Type 0) (f : A → B) (x : Result A E) → ((a : A) → P a → Q (f a)) → IfGoesOn P x → IfGoesOn Q (ok_as f x)
as_goes P Q f (Ok a) g h = g a h
as_goes P Q f (Err e) g h = tt

pub err_goes : {A E F : Type 0} (P : A → Type 0) (f : E → F) (x : Result A E) → IfGoesOn P x → IfGoesOn P (err_as f x)
err_goes P f (Ok a) h = h
err_goes P f (Err e) h = tt

pub only_goes : {A E : Type 0} (P : A → Type 0) (b : Bool) (e : E) (a : A) → P a → IfGoesOn P (only_if b e a)
only_goes P true e a h = h
only_goes P false e a h = tt

-- ---- moves

abbrev powered : Context
powered = record { units = []; powered = true }

-- what holds of the line of every move, if it holds of the lines that its four words state
module _ (P : DeckLine → Type 0) (power : P line.Power) (select : (f : List ℕ) → IfGoesOn (λ a. P (line.Sent (line.Select a))) (aid_field f)) (delete : (f : List ℕ) → IfGoesOn (λ a. P (line.Sent (line.Delete a))) (aid_field f)) (apdu : (f : List ℕ) → IfGoesOn (λ b. P (line.Sent (line.Apdu b))) (hex_field f)) where
  -- a statement with one field
  field_states : (f : List ℕ → DeckLine) (x : Result (List ℕ) DeckCause) → IfGoesOn (λ a. P (f a)) x → IfGoesOn P (ok_as (λ a. Says (f a) powered) x >>= line_stated)
  field_states f (Ok a) h = h
  field_states f (Err e) h = tt

  power_states : (n : ℕ) (fs : List (List ℕ)) → IfGoesOn P (statement_of powered n PowerWord fs >>= line_stated)
  unfolding statement_of
  power_states n [] = power
  power_states n (f ∷ fs) = tt

  select_states : (n : ℕ) (fs : List (List ℕ)) → IfGoesOn P (statement_of powered n SelectWord fs >>= line_stated)
  unfolding statement_of
  select_states n [] = tt
  select_states n (f ∷ []) = field_states (λ a. line.Sent (line.Select a)) (aid_field f) (select f)
  select_states n (f ∷ g ∷ fs) = tt

  delete_states : (n : ℕ) (fs : List (List ℕ)) → IfGoesOn P (statement_of powered n DeleteWord fs >>= line_stated)
  unfolding statement_of
  delete_states n [] = tt
  delete_states n (f ∷ []) = field_states (λ a. line.Sent (line.Delete a)) (aid_field f) (delete f)
  delete_states n (f ∷ g ∷ fs) = tt

  apdu_states : (n : ℕ) (fs : List (List ℕ)) → IfGoesOn P (statement_of powered n ApduWord fs >>= line_stated)
  unfolding statement_of
  apdu_states n [] = tt
  apdu_states n (f ∷ []) = field_states (λ b. line.Sent (line.Apdu b)) (hex_field f) (apdu f)
  apdu_states n (f ∷ g ∷ fs) = tt

  pub move_states : (n : ℕ) (fs : List (List ℕ)) → IfGoesOn P (move_line n fs)
  unfolding move_line
  move_states n [] = tt
  move_states n (word ∷ rest) =
      let States : Word → Type 0 = λ w. IfGoesOn P (statement_of powered n w rest >>= line_stated) in
      goes_on States P (ok_or (lookup move_words word) BadLine) (λ w. statement_of powered n w rest >>= line_stated)
      (found_goes States (lookup move_words word) BadLine (lookup_all States move_words word (power_states n rest, (select_states n rest, (delete_states n rest, (apdu_states n rest, tt))))))
      (λ w h. h)

abbrev pub IsCardLine : DeckLine → Type 0
IsCardLine l = is_card_line l ≡ true

pub line_of_move : (n : ℕ) (fs : List (List ℕ)) → IfGoesOn IsCardLine (move_line n fs)
line_of_move n fs =
    move_states IsCardLine refl (λ f. all_go (λ a. IsCardLine (line.Sent (line.Select a))) (aid_field f) (λ a. refl)) (λ f. all_go (λ a. IsCardLine (line.Sent (line.Delete a))) (aid_field f) (λ a. refl))
    (λ f. all_go (λ b. IsCardLine (line.Sent (line.Apdu b))) (hex_field f) (λ b. refl)) n fs

-- ---- rules

-- rules whose moves are lines to the card
abbrev HasMoves : Rules → Type 0
HasMoves r = AreMoves r.moves

moves_of_rule : (r : Rules) (n : ℕ) (text : List ℕ) (w : RuleWord) (fs : List (List ℕ)) → HasMoves r → IfGoesOn HasMoves (with_rule r n text w fs)
unfolding with_rule
moves_of_rule r n text MoveWord fs h =
    as_goes IsCardLine HasMoves (λ l. record r { moves = r.moves ++ record { number = n; text = text; line = l } ∷ [] }) (move_line n fs)
    (λ l g. all_append (λ m. is_card_line m.line ≡ true) r.moves (record { number = n; text = text; line = l } ∷ []) h (g, tt)) (line_of_move n fs)
moves_of_rule r n text AllowWord fs h =
    goes_on (λ a. ⊤) HasMoves (name_and_amount fs) _ (any_goes (name_and_amount fs)) (λ a g. only_goes HasMoves (is_none (lookup r.allowances a.0)) _ _ h)
moves_of_rule r n text OnWord fs h =
    goes_on (λ a. ⊤) HasMoves (full_parts (parts_of occasion_words fs)) _ (any_goes (full_parts (parts_of occasion_words fs)))
    (λ m g. goes_on (λ a. ⊤) HasMoves (full_parts (parts_of effect_words m.2)) _ (any_goes (full_parts (parts_of effect_words m.2)))
    (λ o i. goes_on (λ a. ⊤) HasMoves (name_and_amount o.2) _ (any_goes (name_and_amount o.2)) (λ a j. only_goes HasMoves (is_some (lookup r.allowances a.0)) _ _ h)))

moves_of_line : (r : Rules) (l : ℕ × List ℕ) (fs : List (List ℕ)) → HasMoves r → IfGoesOn HasMoves (with_line r l fs)
unfolding with_line
moves_of_line r l [] h = tt
moves_of_line r l (mark ∷ []) h = tt
moves_of_line r l (mark ∷ word ∷ rest) h =
    goes_on (λ w. ⊤) HasMoves (rule_word mark word) _ (any_goes (rule_word mark word)) (λ w g. moves_of_rule r l.0 _ w rest h)

moves_of_rules : (r : Rules) (ls : List (ℕ × List ℕ)) → HasMoves r → IfGoesOn HasMoves (rules_from r ls)
unfolding rules_from
moves_of_rules r [] h = h
moves_of_rules r (l ∷ ls) h =
    goes_on HasMoves HasMoves (err_as (λ e. (l.0, e)) (with_line r l (fields l.1))) (λ s. rules_from s ls) (err_goes HasMoves (λ e. (l.0, e)) (with_line r l (fields l.1)) (moves_of_line r l (fields l.1) h))
    (λ s g. moves_of_rules s ls g)

moves_read : (text : List ℕ) → IfGoesOn HasMoves (rules_read text)
unfolding rules_read
moves_read text = moves_of_rules no_rules (marked_lines false (with_numbers 1 (lines text))) tt

abbrev ExploresMoves : Exploration → Type 0
ExploresMoves x = AreMoves x.rules.moves

tested_goes : (r : Rules) → HasMoves r → IfGoesOn HasMoves (tested_rules r)
tested_goes r h = grind (arith, goes_on, only_goes)

exploration_goes : (text : List ℕ) → IfGoesOn ExploresMoves (exploration_read text)
unfolding exploration_read
exploration_goes text =
    goes_on (λ ls. ⊤) ExploresMoves (err_as line_fault (deck_read text)) _ (any_goes (err_as line_fault (deck_read text)))
    (λ ls g. goes_on HasMoves ExploresMoves (err_as line_fault (rules_read text)) (λ r. ok_as (λ s. record { lines = ls; rules = s }) (tested_rules r)) (err_goes HasMoves line_fault (rules_read text) (moves_read text))
    (λ r h. as_goes HasMoves ExploresMoves (λ s. record { lines = ls; rules = s }) (tested_rules r) (λ s i. i) (tested_goes r h)))

-- each move of a deck that was read is a line to the card
pub moves_of_exploration : (text : List ℕ) (x : Exploration) → exploration_read text ≡ Ok x → AreMoves x.rules.moves
moves_of_exploration text x e = subst (λ z. IfGoesOn ExploresMoves z) e (exploration_goes text)
