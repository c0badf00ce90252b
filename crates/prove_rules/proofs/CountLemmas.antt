-- The number of lines of a deck.
use Rattle.std.proofs.Common.{◌≡◌, ◌+◌, ◌≤◌, ℕ, suc, List, [], ◌∷◌, ◌++◌, Bool, length, Some, Result, Ok, Err, arith, refl, sym, ap, ◌∙◌}
use Rattle.std.specs.Prelude.{◌==◌}
use Rattle.mc_text.specs.model_text.specs.Text.{◌>>=◌, lines, ok_as, with_numbers}
use Rattle.model_rule_text.specs.model_play.specs.declared.deck.DeckCause.{DeckCause}
use Rattle.model_rule_text.specs.model_play.specs.DeckGrammar.{deck_lines, deck_read, turn_at, DeckLine, LineTurn, Mode}
use Rattle.mc_text.specs.Reading.{next_line}
use Rattle.mc_text.proofs.ReadingLemmas.{lines_at, lines_from}

line_count : (t l b : List ℕ) → Some (l, b) ≡ next_line t → length (lines t) ≡ suc (length (lines b))
line_count t l b e = ap length (lines_at t ∙ ap lines_from (sym e))

-- one line fewer is left
pub few_step : (n : ℕ) (t l b : List ℕ) → Some (l, b) ≡ next_line t → n + length (lines t) ≤ 20000 → (n + 1) + length (lines b) ≤ 20000
few_step n t l b e h = let k = line_count t l b e in omega (arith, k, h)

abbrev Rest : Type 0
Rest = List (ℕ × DeckLine)

read_by : (a x : Result Rest (ℕ × DeckCause)) (f : Rest → Rest) (d : Rest) → x ≡ a → ok_as f x ≡ Ok d → (e : Rest) × (x ≡ Ok e)
read_by (Ok e) x f d i h = (e, i)
read_by (Err e) x f d i h = absurd (cc (sym (ap (ok_as f) i) ∙ h))

turn_by : (r : Result LineTurn (ℕ × DeckCause)) (ls : List (ℕ × List ℕ)) (d : Rest) → (r >>= λ t. ok_as (λ rest. t.lines ++ rest) (deck_lines t.mode ls)) ≡ Ok d
    → (m : Mode) × (e : Rest) × (deck_lines m ls ≡ Ok e)
turn_by r ls d h = grind (arith, read_by)

few_by : (n : ℕ) (m : Mode) (l : List ℕ) (ls : List (List ℕ)) (d : Rest) (b : Bool) → (n == 20001) ≡ b → n ≤ 20001
    → (turn_at b m (n, l) >>= λ t. ok_as (λ rest. t.lines ++ rest) (deck_lines t.mode (with_numbers (suc n) ls))) ≡ Ok d
    → ((m : Mode) (d : Rest) → deck_lines m (with_numbers (suc n) ls) ≡ Ok d → suc n ≤ 20001 → suc n + length ls ≤ 20001) → n + suc (length ls) ≤ 20001
few_by n m l ls d b e h i again = grind (arith, turn_by)

few_from : (n : ℕ) (m : Mode) (ls : List (List ℕ)) (d : Rest) → deck_lines m (with_numbers n ls) ≡ Ok d → n ≤ 20001 → n + length ls ≤ 20001
unfolding deck_lines
few_from n m [] d i h = omega (arith, h)
few_from n m (l ∷ ls) d i h = few_by n m l ls d (n == 20001) refl h i (λ k e j g. few_from (suc n) k ls e j g)

-- a deck has at most 20,000 lines
pub few_lines : (t : List ℕ) (d : Rest) → deck_read t ≡ Ok d → length (lines t) ≤ 20000
unfolding deck_read
few_lines t d h = let k = few_from 1 _ (lines t) d h (omega arith) in omega (arith, k)
