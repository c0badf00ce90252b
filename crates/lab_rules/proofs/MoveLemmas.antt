-- Statements that are moves, read as a deck of a `power` line and the statement.
use Rattle.std.proofs.Common.{◌≡◌, ℕ, List, [], ◌∷◌, ◌++◌, Bool, true, false, cond, Option, Some, None, Result, Ok, Err, refl, sym, ap, subst, ◌∙◌}
use Rattle.std.specs.Prelude.{◌==◌, bytes_eq, codes, is_some, ok_or}
use Rattle.std.proofs.lemmas.Slice.Eq.{bytes_eq-Decides}
use Rattle.model_device.specs.Bytes.{lookup}
use Rattle.mc_text.specs.model_text.specs.Text.{◌>>=◌, err_as, fields, first_cut, halves_with_character, lines, ok_as, with_numbers}
use Rattle.law_explore.specs.model_play.specs.declared.deck.DeckCause.{DeckCause}
use Rattle.law_explore.specs.model_play.specs.declared.deck.DeckCause.TheVariants.{BadLine}
use Rattle.law_explore.specs.model_play.specs.DeckGrammar.{aid_field, between, deck_lines, deck_read, hex_field, statement_of, turn_of, ApduWord, Between, Context, DeckLine, DeleteWord, PowerWord, Says, SelectWord, Stated, Word}
use Rattle.law_explore.specs.model_play.specs.DeckGrammar as line
use Rattle.law_explore.specs.Rules.{line_stated, move_line, move_words}
use Rattle.mc_text.specs.Reading.{line_cut}
use Rattle.mc_text.proofs.ReadingLemmas.{lines_at, lines_from}
use Rattle.lab_rules.specs.Fields.{is_move, IsOneLine}
use Rattle.lab_rules.specs.Moves.{move_deck, IsMoveDeck}

-- ---- the two lines

cut_one : (s : List ℕ) → IsOneLine s → first_cut (λ c. c == 10) s ≡ (s, None)
cut_one [] h = refl
cut_one (c ∷ s) h = ap (λ b. halves_with_character b c s (first_cut (λ c. c == 10) s)) h.0 ∙ ap (halves_with_character false c s) (cut_one s h.1)

lines_one : (c : ℕ) (s : List ℕ) → IsOneLine (c ∷ s) → lines (c ∷ s) ≡ (c ∷ s) ∷ []
lines_one c s h = lines_at (c ∷ s) ∙ ap (λ p. lines_from (line_cut p)) (cut_one (c ∷ s) h)

-- the lines of the text
two_lines : (c : ℕ) (s : List ℕ) → IsOneLine (c ∷ s) → lines (codes "power\n" ++ c ∷ s) ≡ codes "power" ∷ (c ∷ s) ∷ []
two_lines c s h = lines_at (codes "power\n" ++ c ∷ s) ∙ ap (λ ls. codes "power" ∷ ls) (lines_one c s h)

-- ---- statements

abbrev powered : Context
powered = record { units = []; powered = true }

-- the lines of a deck after a statement in its line 2
abbrev lines_of_stated : Result Stated DeckCause → Result (List (ℕ × DeckLine)) (ℕ × DeckCause)
lines_of_stated s = err_as (λ e. (2, e)) (ok_as (turn_of 2) s) >>= λ t. ok_as (λ rest. t.lines ++ rest) (deck_lines t.mode [])

-- a line as the second of a deck
abbrev second_line : Result DeckLine DeckCause → Result (List (ℕ × DeckLine)) (ℕ × DeckCause)
second_line (Ok l) = Ok ((2, l) ∷ [])
second_line (Err e) = Err (2, e)

says_lines : (x : Result (List ℕ) DeckCause) (f : List ℕ → DeckLine) → lines_of_stated (ok_as (λ a. Says (f a) powered) x) ≡ second_line (ok_as (λ a. Says (f a) powered) x >>= line_stated)
unfolding deck_lines
says_lines (Ok a) f = refl
says_lines (Err e) f = refl

-- the statement of a word of a move is read as the line that it is
abbrev IsReadAlike : ℕ → List (List ℕ) → Word → Type 0
IsReadAlike n fs w = lines_of_stated (statement_of powered 2 w fs) ≡ second_line (statement_of powered n w fs >>= line_stated)

power_alike : (n : ℕ) (fs : List (List ℕ)) → IsReadAlike n fs PowerWord
unfolding deck_lines statement_of
power_alike n [] = refl
power_alike n (f ∷ fs) = refl

select_alike : (n : ℕ) (fs : List (List ℕ)) → IsReadAlike n fs SelectWord
unfolding statement_of
select_alike n [] = refl
select_alike n (f ∷ []) = says_lines (aid_field f) (λ a. line.Sent (line.Select a))
select_alike n (f ∷ g ∷ fs) = refl

delete_alike : (n : ℕ) (fs : List (List ℕ)) → IsReadAlike n fs DeleteWord
unfolding statement_of
delete_alike n [] = refl
delete_alike n (f ∷ []) = says_lines (aid_field f) (λ a. line.Sent (line.Delete a))
delete_alike n (f ∷ g ∷ fs) = refl

apdu_alike : (n : ℕ) (fs : List (List ℕ)) → IsReadAlike n fs ApduWord
unfolding statement_of
apdu_alike n [] = refl
apdu_alike n (f ∷ []) = says_lines (hex_field f) (λ a. line.Sent (line.Apdu a))
apdu_alike n (f ∷ g ∷ fs) = refl

-- ---- words

-- the lines of a deck after fields of its line 2
abbrev lines_of_fields : List (List ℕ) → Result (List (ℕ × DeckLine)) (ℕ × DeckCause)
lines_of_fields fs = between powered 2 fs >>= λ t. ok_as (λ rest. t.lines ++ rest) (deck_lines t.mode [])

-- the fields of a move are read as the line that it is
abbrev IsWordRead : ℕ → List (List ℕ) → List ℕ → Type 0
IsWordRead n fs word = lines_of_fields (word ∷ fs) ≡ second_line (move_line n (word ∷ fs))

power_read : (n : ℕ) (fs : List (List ℕ)) → IsWordRead n fs (codes "power")
unfolding move_line
power_read n fs = power_alike n fs

select_read : (n : ℕ) (fs : List (List ℕ)) → IsWordRead n fs (codes "select")
unfolding move_line
select_read n fs = select_alike n fs

delete_read : (n : ℕ) (fs : List (List ℕ)) → IsWordRead n fs (codes "delete")
unfolding move_line
delete_read n fs = delete_alike n fs

apdu_read : (n : ℕ) (fs : List (List ℕ)) → IsWordRead n fs (codes "apdu")
unfolding move_line
apdu_read n fs = apdu_alike n fs

same_word : (v w : List ℕ) (n : ℕ) (fs : List (List ℕ)) → bytes_eq v w ≡ true → IsWordRead n fs v → IsWordRead n fs w
same_word v w n fs e h = subst (IsWordRead n fs) ((bytes_eq-Decides v w).0 e) h

-- the word of a move by the four tests
abbrev word_by : (a b c d : Bool) → Option Word
word_by a b c d = cond a (Some PowerWord) (cond b (Some SelectWord) (cond c (Some DeleteWord) (cond d (Some ApduWord) None)))

word_read : (n : ℕ) (fs : List (List ℕ)) (w : List ℕ) (a b c d : Bool)
    → bytes_eq (codes "power") w ≡ a → bytes_eq (codes "select") w ≡ b → bytes_eq (codes "delete") w ≡ c → bytes_eq (codes "apdu") w ≡ d
    → is_some (word_by a b c d) ≡ true → IsWordRead n fs w
word_read n fs w true b c d e f g h i = same_word (codes "power") w n fs e (power_read n fs)
word_read n fs w false true c d e f g h i = same_word (codes "select") w n fs f (select_read n fs)
word_read n fs w false false true d e f g h i = same_word (codes "delete") w n fs g (delete_read n fs)
word_read n fs w false false false true e f g h i = same_word (codes "apdu") w n fs h (apdu_read n fs)
word_read n fs w false false false false e f g h i = absurd (cc i)

fields_read : (n : ℕ) (fs : List (List ℕ)) → is_move fs ≡ true → lines_of_fields fs ≡ second_line (move_line n fs)
fields_read n [] h = absurd (cc h)
fields_read n (w ∷ fs) h =
    word_read n fs w (bytes_eq (codes "power") w) (bytes_eq (codes "select") w) (bytes_eq (codes "delete") w) (bytes_eq (codes "apdu") w) refl refl refl refl h

-- ---- the deck

-- the deck of a `power` line and a move, or its refusal in line 2
abbrev pub deck_of_move : Result DeckLine DeckCause → Result (List (ℕ × DeckLine)) (ℕ × DeckCause)
deck_of_move (Ok l) = Ok (move_deck l)
deck_of_move (Err e) = Err (2, e)

after_power : (x : Result DeckLine DeckCause) → ok_as (λ rest. (1, line.Power) ∷ rest) (second_line x) ≡ deck_of_move x
after_power (Ok l) = refl
after_power (Err e) = refl

first_line : (s : List ℕ) → deck_lines (Between (record { units = []; powered = false })) ((1, codes "power") ∷ (2, s) ∷ []) ≡ ok_as (λ rest. (1, line.Power) ∷ rest) (lines_of_fields (fields s))
unfolding deck_lines statement_of
first_line s = refl

not_none : {A : Type 0} → is_move (fields []) ≡ true → A
not_none h = absurd (cc h)

-- the text of a `power` line and a statement that can be a move is read as its deck
pub move_read : (n : ℕ) (s : List ℕ) → IsOneLine s → is_move (fields s) ≡ true → deck_read (codes "power\n" ++ s) ≡ deck_of_move (move_line n (fields s))
unfolding deck_read
move_read n [] h i = not_none i
move_read n (c ∷ s) h i =
    ap (λ ls. deck_lines (Between (record { units = []; powered = false })) (with_numbers 1 ls)) (two_lines c s h)
    ∙ first_line (c ∷ s) ∙ ap (ok_as (λ rest. (1, line.Power) ∷ rest)) (fields_read n (fields (c ∷ s)) i) ∙ after_power (move_line n (fields (c ∷ s)))

read_by : (x : Result DeckLine DeckCause) (d : List (ℕ × DeckLine)) → deck_of_move x ≡ Ok d → IsMoveDeck d x
read_by (Ok l) d h = sym (cc h)
read_by (Err e) d h = absurd (cc h)

refused_by : (x : Result DeckLine DeckCause) (k : ℕ) (c : DeckCause) → deck_of_move x ≡ Err (k, c) → x ≡ Err c
refused_by (Ok l) k c h = absurd (cc h)
refused_by (Err e) k c h = let i : (2, e) ≡ (k, c) = cc h in ap (λ (p : ℕ × DeckCause). Err p.1) i

-- a text that is read so
pub is_read : (n : ℕ) (t s : List ℕ) (d : List (ℕ × DeckLine)) → t ≡ codes "power\n" ++ s → IsOneLine s → is_move (fields s) ≡ true → deck_read t ≡ Ok d → IsMoveDeck d (move_line n (fields s))
is_read n t s d e h i k = read_by (move_line n (fields s)) d (sym (move_read n s h i) ∙ ap deck_read (sym e) ∙ k)

-- a text that is refused so
pub is_refused : (n m : ℕ) (t s : List ℕ) (c : DeckCause) → t ≡ codes "power\n" ++ s → IsOneLine s → is_move (fields s) ≡ true → deck_read t ≡ Err (m, c) → move_line n (fields s) ≡ Err c
is_refused n m t s c e h i k = refused_by (move_line n (fields s)) m c (sym (move_read n s h i) ∙ ap deck_read (sym e) ∙ k)

none_by : {A : Type 0} (o : Option A) → is_some o ≡ false → o ≡ None
none_by None e = refl
none_by (Some a) e = absurd (cc e)

-- fields that begin with no word of a move
pub not_move : (n : ℕ) (fs : List (List ℕ)) → is_move fs ≡ false → move_line n fs ≡ Err BadLine
unfolding move_line
not_move n [] h = refl
not_move n (word ∷ rest) h =
    ap (λ o. ok_or o BadLine >>= λ w. statement_of powered n w rest >>= λ s. line_stated s) (none_by (lookup move_words word) h)
