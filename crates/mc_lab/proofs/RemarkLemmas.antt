-- Lines that are remarks, and lines that are not.
use Rattle.std.proofs.Common.{◌≡◌, ◌+◌, refl, sym, ◌∙◌, ap, ℕ, suc, List, [], ◌∷◌, ◌++◌, Bool, false, Option, Some, None, append_assoc, append-nil, arith}
use Rattle.std.specs.Prelude.{◌==◌, Result, Ok, Err}
use Rattle.law_explore.specs.model_text.specs.Text.{fields, lines, with_numbers}
use Rattle.law_explore.specs.model_play.specs.declared.deck.DeckCause.{DeckCause}
use Rattle.law_explore.specs.model_play.specs.DeckGrammar.{Mode, Between, LineTurn, turn_at}
use Rattle.mc_text.specs.Reading.{next_line}
use Rattle.mc_asm.proofs.PassLemmas.{numbered_some, numbered_none}
use Rattle.mc_lab.specs.Rising.{Rising}
use Rattle.mc_lab.proofs.RisingLemmas.{rising_lower}
use Rattle.mc_lab.specs.declared.remark.Mark.{Mark}
use Rattle.mc_lab.specs.declared.remark.Remark.{Remark as Found}
use Rattle.mc_lab.specs.Remarks.{Remark, above_after, after_line, in_section, just, remark_at, remarks, remarks_from, text_in}
use Rattle.mc_lab.specs.Remarked.{remark_number, remark_value, remark_values}
use Rattle.model_events.specs.model_text.specs.Text.{stays_inside}
use Rattle.mc_lab.specs.Scanning.{scanned_from, scanned}

-- ---- remarks

-- one more remark
pub values_more : (rs : List Found) (r : Found) → remark_values (rs ++ r ∷ []) ≡ remark_values rs ++ remark_value r ∷ []
values_more [] r = refl
values_more (x ∷ xs) r = ap (λ l. remark_value x ∷ l) (values_more xs r)

-- ---- line by line

-- the remarks found, followed by those that are left
abbrev pub with_left : Mark → List Remark → Bool → ℕ × List ℕ → ℕ → List ℕ → List Remark
with_left k so inside above n rest = so ++ scanned_from k inside above (with_numbers n (lines rest))

-- one more line
pub line_read : (k : Mark) (so now whole : List Remark) (inside : Bool) (above : ℕ × List ℕ) (n : ℕ) (t l b : List ℕ) → Some (l, b) ≡ next_line t
    → now ≡ so ++ just (remark_at inside (text_in k l) n above) → with_left k so inside above n t ≡ whole
    → with_left k now (stays_inside inside (fields l)) (above_after (n, l) above) (n + 1) b ≡ whole
unfolding scanned_from
line_read k so now whole inside above n t l b e h w =
    let here = just (remark_at inside (text_in k l) n above) in
    let left = scanned_from k (stays_inside inside (fields l)) (above_after (n, l) above) (with_numbers (n + 1) (lines b)) in
    ap (λ x. x ++ left) h ∙ append_assoc so here left ∙ ap (λ ls. so ++ scanned_from k inside above ls) (sym (numbered_some n t l b e)) ∙ w

-- no more line
pub lines_done : (k : Mark) (so whole : List Remark) (inside : Bool) (above : ℕ × List ℕ) (n : ℕ) (t : List ℕ) → None ≡ next_line t → with_left k so inside above n t ≡ whole → so ≡ whole
unfolding scanned_from
lines_done k so whole inside above n t e h = sym (append-nil so) ∙ ap (λ ls. so ++ scanned_from k inside above ls) (sym (numbered_none n t e)) ∙ h

-- before the first line the remarks that are left are all
pub scanned_are : (k : Mark) (text : List ℕ) → with_left k [] false (0, []) 1 text ≡ scanned k text
unfolding scanned
scanned_are k text = refl

-- ---- their line numbers

rising_at : (n : ℕ) (b : Bool) (o : Option (List ℕ)) (above : ℕ × List ℕ) (rs : List Remark) → Rising remark_number (suc n) rs → Rising remark_number n (just (remark_at b o n above) ++ rs)
rising_at n b o above rs h = grind (arith, rising_lower)

rising_turn : (n : ℕ) (r : Result LineTurn (ℕ × DeckCause)) (rest : Mode → List Remark) → ((m : Mode) → Rising remark_number n (rest m)) → Rising remark_number n (after_line r rest)
rising_turn n (Ok t) rest h = h t.mode
rising_turn n (Err e) rest h = tt

rising_from : (k : Mark) (m : Mode) (above : ℕ × List ℕ) (n : ℕ) (ls : List (List ℕ)) → Rising remark_number n (remarks_from k m above (with_numbers n ls))
unfolding remarks_from
rising_from k m above n [] = tt
rising_from k m above n (l ∷ ls) =
    let turn = turn_at (n == 20001) m (n, l) in
    let rest : Mode → List Remark = λ i. remarks_from k i (above_after (n, l) above) (with_numbers (suc n) ls) in
    rising_at n (in_section m) (text_in k l) above (after_line turn rest) (rising_turn (suc n) turn rest (λ i. rising_from k i (above_after (n, l) above) (suc n) ls))

-- the line numbers of remarks ascend, from 1 on
pub remarks_rise : (k : Mark) (text : List ℕ) → Rising remark_number 1 (remarks k text)
unfolding remarks
remarks_rise k text = rising_from k (Between (record { units = []; powered = false })) (0, []) 1 (lines text)
