-- The moves of a text, line by line.
use Rattle.std.proofs.Common.{◌≡◌, ◌+◌, ℕ, List, [], ◌∷◌, ◌++◌, Bool, true, false, cond, not, Some, None, Result, Ok, Err, add-one, refl, sym, ap, subst, ◌∙◌}
use Rattle.std.specs.Prelude.{◌&&◌, bytes_eq, codes}
use Rattle.std.proofs.lemmas.Slice.Eq.{bytes_eq-Decides}
use Rattle.law_histories.specs.model_text.specs.Text.{◌>>=◌, err_as, fields, lines, ok_as, with_numbers}
use Rattle.law_histories.specs.model_play.specs.declared.deck.DeckCause.{DeckCause}
use Rattle.law_histories.specs.model_play.specs.DeckGrammar.{DeckLine}
use Rattle.law_histories.specs.law_explore.specs.Rules as model
use Rattle.law_histories.specs.model_play.specs.RuleLines.{is_marked, line_if, marked_lines}
use Rattle.mc_text.specs.model_text.specs.Text.{stays_inside}
use Rattle.law_histories.specs.law_explore.specs.Rules.{move_line, with_line, with_rule, without_field}
use Rattle.law_histories.specs.Histories.{is_rule_of}
use Rattle.mc_text.specs.Reading.{next_line}
use Rattle.mc_text.proofs.ReadingLemmas.{lines_at, lines_from}
use Rattle.mc_deck.specs.Refused.{DeckRefuses, Faulty}
use Rattle.lab_rules.specs.declared.rules.Move.{Move}
use Rattle.lab_rules.specs.declared.rules.Allowance.{Allowance}
use Rattle.lab_rules.specs.declared.rules.OnRule.{OnRule}
use Rattle.lab_rules.specs.declared.rules.Rules.{Rules}
use Rattle.mc_deck.specs.declared.refusal.Fault.{Fault}
use Rattle.mc_deck.specs.declared.refusal.Fault.TheVariants as fault
use Rattle.lab_rules.specs.Meanings.{refusal_at, rules_with, AreRuleLists, AreRules, AreRulesRead}
use Rattle.lab_deck.specs.Moves.{moves_from, moves_only, moves_read, moves_with, with_move, with_move_of, AreMovesRead, AreOnlyMoves}

-- ---- one line

-- a line that is no move
none_of : (ms : List model.Move) (l : ℕ × List ℕ) (fs : List (List ℕ)) → is_rule_of (codes "move") fs ≡ false → with_move_of ms l fs ≡ Ok ms
none_of ms l [] h = refl
none_of ms l (mark ∷ []) h = refl
none_of ms l (mark ∷ word ∷ rest) h = ap (λ b. cond b (with_move ms l rest) (Ok ms)) h

same_either : (b : Bool) (x y : Result (List model.Move) DeckCause) → x ≡ y → cond b x y ≡ y
same_either true x y e = e
same_either false x y e = refl

pub no_move : (ms : List model.Move) (n : ℕ) (inside : Bool) (l : List ℕ) → (not inside && is_rule_of (codes "move") (fields l)) ≡ false → moves_with inside (n, l) ms ≡ Ok ms
no_move ms n true l h = refl
no_move ms n false l h = same_either (is_marked (fields l)) (with_move_of ms (n, l) (fields l)) (Ok ms) (none_of ms (n, l) (fields l) h)

both_by : (a b : Bool) → (a && b) ≡ true → (a ≡ true) × (b ≡ true)
both_by true b h = (refl, h)
both_by false b h = absurd (cc h)

-- the fields of a line that is a move
move_fields : (fs : List (List ℕ)) → is_rule_of (codes "move") fs ≡ true → (rest : List (List ℕ)) × (fs ≡ codes "#@" ∷ codes "move" ∷ rest)
move_fields [] h = absurd (cc h)
move_fields (mark ∷ []) h = let no = both_by (bytes_eq mark (codes "#@")) false h in absurd (cc no.1)
move_fields (mark ∷ word ∷ rest) h =
    let both = both_by (bytes_eq mark (codes "#@")) (bytes_eq word (codes "move")) h in
    let first : mark ≡ codes "#@" = (bytes_eq-Decides mark (codes "#@")).0 both.0 in
    let second : word ≡ codes "move" = (bytes_eq-Decides word (codes "move")).0 both.1 in
    (rest, ap (λ m. m ∷ word ∷ rest) first ∙ ap (λ w. codes "#@" ∷ w ∷ rest) second)

twice : (ms : List model.Move) (n : ℕ) (text : List ℕ) (x : Result DeckLine DeckCause)
    → ok_as (λ d. record (moves_only ms) { moves = ms ++ record { number = n; text = text; line = d } ∷ [] }) x ≡ ok_as moves_only (ok_as (λ d. ms ++ record { number = n; text = text; line = d } ∷ []) x)
twice ms n text (Ok d) = refl
twice ms n text (Err e) = refl

plain_rule : (ms : List model.Move) (n : ℕ) (l : List ℕ) (rest : List (List ℕ)) → with_line (moves_only ms) (n, l) (codes "#@" ∷ codes "move" ∷ rest) ≡ ok_as moves_only (with_move ms (n, l) rest)
unfolding with_line with_rule
plain_rule ms n l rest = twice ms n (without_field (without_field l)) (move_line n rest)

outside_by : (inside b : Bool) → (not inside && b) ≡ true → (inside ≡ false) × (b ≡ true)
outside_by true b h = absurd (cc h)
outside_by false b h = (refl, h)

-- a line that is a move
move_rule : (ms : List model.Move) (n : ℕ) (inside : Bool) (l : List ℕ) → (not inside && is_rule_of (codes "move") (fields l)) ≡ true → rules_with false (n, l) (moves_only ms) ≡ ok_as moves_only (moves_with inside (n, l) ms)
move_rule ms n inside l h =
    let out = outside_by inside (is_rule_of (codes "move") (fields l)) h in
    let is = move_fields (fields l) out.1 in
    let rules : rules_with false (n, l) (moves_only ms) ≡ ok_as moves_only (with_move ms (n, l) is.0) =
    ap (λ fs. cond (not false && is_marked fs) (with_line (moves_only ms) (n, l) fs) (Ok (moves_only ms))) is.1 ∙ plain_rule ms n l is.0 in
    let moves : moves_with inside (n, l) ms ≡ with_move ms (n, l) is.0 =
    ap (λ i. moves_with i (n, l) ms) out.0 ∙ ap (λ fs. cond (not false && is_marked fs) (with_move_of ms (n, l) fs) (Ok ms)) is.1 in
    rules ∙ ap (ok_as moves_only) (sym moves)

only_by : (c : Rules) (y : Result (List model.Move) DeckCause) → AreRulesRead c (ok_as moves_only y) → AreOnlyMoves c y
only_by c (Ok ms) h = h
only_by c (Err e) h = h

-- the moves with one more
pub move_added : (c : Rules) (ms : List model.Move) (n : ℕ) (inside : Bool) (l : List ℕ) (r : Bool) → r ≡ (not inside && is_rule_of (codes "move") (fields l)) → r ≡ true → AreRulesRead c (rules_with false (n, l) (moves_only ms))
    → AreOnlyMoves c (moves_with inside (n, l) ms)
move_added c ms n inside l r i t h = only_by c (moves_with inside (n, l) ms) (subst (AreRulesRead c) (move_rule ms n inside l (sym i ∙ t)) h)

fault_by : (y : Result (List model.Move) DeckCause) (e : Fault) → Faulty (ok_as moves_only y) e → Faulty y e
fault_by y fault.NoMemory h = tt
fault_by (Ok ms) (fault.Cause c) h = absurd (cc h)
fault_by (Err d) (fault.Cause c) h = let same : d ≡ c = cc h in ap Err same

-- a move that is refused
pub move_refused : (ms : List model.Move) (n : ℕ) (inside : Bool) (l : List ℕ) (r : Bool) (e : Fault) → r ≡ (not inside && is_rule_of (codes "move") (fields l)) → r ≡ true → Faulty (rules_with false (n, l) (moves_only ms)) e
    → Faulty (moves_with inside (n, l) ms) e
move_refused ms n inside l r e i t h = fault_by (moves_with inside (n, l) ms) e (subst (λ x. Faulty x e) (move_rule ms n inside l (sym i ∙ t)) h)

-- the moves stay
pub moves_still : (c : Rules) (ms : List model.Move) (n : ℕ) (inside : Bool) (l : List ℕ) (r : Bool) → r ≡ (not inside && is_rule_of (codes "move") (fields l)) → r ≡ false → AreRules c (moves_only ms) → AreOnlyMoves c (moves_with inside (n, l) ms)
moves_still c ms n inside l r i f h = subst (λ (y : Result (List model.Move) DeckCause). AreOnlyMoves c y) (sym (no_move ms n inside l (sym i ∙ f))) h

-- ---- line by line

-- what the lines that are left make of moves
abbrev pub left_moves : List model.Move → Bool → ℕ → List ℕ → Result (List model.Move) (ℕ × DeckCause)
left_moves ms inside n t = moves_from ms (marked_lines inside (with_numbers n (lines t)))

line_by : (ms : List model.Move) (n : ℕ) (l : List ℕ) (b : Bool) (rest : List (ℕ × List ℕ))
    → moves_from ms (line_if b (n, l) rest) ≡ (err_as (λ e. (n, e)) (cond b (with_move_of ms (n, l) (fields l)) (Ok ms)) >>= λ s. moves_from s rest)
unfolding moves_from
line_by ms n l true rest = refl
line_by ms n l false rest = refl

numbered : (n : ℕ) (t l b : List ℕ) → Some (l, b) ≡ next_line t → with_numbers n (lines t) ≡ (n, l) ∷ with_numbers (n + 1) (lines b)
numbered n t l b e = ap (with_numbers n) (lines_at t ∙ ap lines_from (sym e)) ∙ ap (λ k. (n, l) ∷ with_numbers k (lines b)) (sym (add-one n))

line_step : (ms : List model.Move) (inside : Bool) (n : ℕ) (t l b : List ℕ) → Some (l, b) ≡ next_line t
    → left_moves ms inside n t ≡ (err_as (λ e. (n, e)) (moves_with inside (n, l) ms) >>= λ s. left_moves s (stays_inside inside (fields l)) (n + 1) b)
unfolding marked_lines
line_step ms inside n t l b e =
    ap (λ ls. moves_from ms (marked_lines inside ls)) (numbered n t l b e)
    ∙ line_by ms n l (not inside && is_marked (fields l)) (marked_lines (stays_inside inside (fields l)) (with_numbers (n + 1) (lines b)))

no_line : (ms : List model.Move) (inside : Bool) (n : ℕ) (t : List ℕ) → None ≡ next_line t → left_moves ms inside n t ≡ Ok ms
unfolding marked_lines moves_from
no_line ms inside n t e = ap (λ ls. moves_from ms (marked_lines inside (with_numbers n ls))) (lines_at t ∙ ap lines_from (sym e))

-- the moves so far, with those of the lines that are left, are all
pub record MovesLeft (c : Rules) (inside : Bool) (n : ℕ) (t : List ℕ) (whole : Result (List model.Move) (ℕ × DeckCause)) : Type 0 where
  pub moves : List model.Move
  pub are : AreRules c (moves_only moves)
  pub leads : left_moves moves inside n t ≡ whole

-- no line yet
pub moves_start : (c : Rules) (t : List ℕ) → c.moves.items ≡ [] → c.allowances.items ≡ [] → c.ons.items ≡ [] → MovesLeft c false 1 t (moves_read t)
unfolding moves_read
moves_start c t e f g =
    let none : AreRuleLists [] [] [] (moves_only []) = record { moves = tt; allowances = refl; distinct = tt; ons = tt } in
    record {
      moves = [];
      are = subst (λ (m : List Move). AreRuleLists m c.allowances.items c.ons.items (moves_only [])) (sym e) (subst (λ (a : List Allowance). AreRuleLists [] a c.ons.items (moves_only [])) (sym f) (subst (λ (o : List OnRule). AreRuleLists [] [] o (moves_only [])) (sym g) none));
      leads = refl;
    }

step_by : (c : Rules) (inside : Bool) (n k : ℕ) (b : List ℕ) (whole : Result (List model.Move) (ℕ × DeckCause)) (x : Result (List model.Move) DeckCause) → AreOnlyMoves c x
    → (err_as (λ e. (n, e)) x >>= λ s. left_moves s inside k b) ≡ whole → MovesLeft c inside k b whole
step_by c inside n k b whole (Ok s) h e = record { moves = s; are = h; leads = e }
step_by c inside n k b whole (Err d) h e = absurd h

-- one more line
pub moves_step : (c d : Rules) (inside stays : Bool) (n : ℕ) (t l b : List ℕ) (whole : Result (List model.Move) (ℕ × DeckCause)) → Some (l, b) ≡ next_line t → stays ≡ stays_inside inside (fields l)
    → ((ms : List model.Move) → AreRules c (moves_only ms) → AreOnlyMoves d (moves_with inside (n, l) ms)) → MovesLeft c inside n t whole → MovesLeft d stays (n + 1) b whole
moves_step c d inside stays n t l b whole e i added h =
    subst (λ (s : Bool). MovesLeft d s (n + 1) b whole) (sym i) (
    step_by d (stays_inside inside (fields l)) n (n + 1) b whole (moves_with inside (n, l) h.moves) (added h.moves h.are) (sym (line_step h.moves inside n t l b e) ∙ h.leads))

refused_by : (c : Rules) (inside : Bool) (n : ℕ) (t l b : List ℕ) (whole : Result (List model.Move) (ℕ × DeckCause)) (d : DeckCause) → Some (l, b) ≡ next_line t
    → ((ms : List model.Move) → AreRules c (moves_only ms) → moves_with inside (n, l) ms ≡ Err d) → MovesLeft c inside n t whole → whole ≡ Err (n, d)
refused_by c inside n t l b whole d e refused h =
    sym h.leads ∙ line_step h.moves inside n t l b e ∙ ap (λ x. err_as (λ e. (n, e)) x >>= λ s. left_moves s (stays_inside inside (fields l)) (n + 1) b) (refused h.moves h.are)

-- a line that is refused
pub moves_refuse : (c : Rules) (inside : Bool) (n : ℕ) (t l b : List ℕ) (whole : Result (List model.Move) (ℕ × DeckCause)) (f : Fault) → Some (l, b) ≡ next_line t
    → ((ms : List model.Move) → AreRules c (moves_only ms) → Faulty (moves_with inside (n, l) ms) f) → MovesLeft c inside n t whole → DeckRefuses whole (refusal_at n f)
moves_refuse c inside n t l b whole (fault.Cause d) e refused h = refused_by c inside n t l b whole d e refused h
moves_refuse c inside n t l b whole fault.NoMemory e refused h = tt

done_by : (c : Rules) (y : Result (List model.Move) (ℕ × DeckCause)) (ms : List model.Move) → Ok ms ≡ y → AreRules c (moves_only ms) → AreMovesRead c.moves.items y
done_by c y ms e h = subst (AreMovesRead c.moves.items) e h.moves

-- no line is left
pub moves_done : (c : Rules) (inside : Bool) (n : ℕ) (t : List ℕ) (whole : Result (List model.Move) (ℕ × DeckCause)) → None ≡ next_line t → MovesLeft c inside n t whole → AreMovesRead c.moves.items whole
moves_done c inside n t whole e h = done_by c whole h.moves (sym (no_line h.moves inside n t e) ∙ h.leads) h.are
