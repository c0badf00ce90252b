-- A deck with its moves and its rules, as the code reads it and refuses it.
use Rattle.std.proofs.Common.{◌≡◌, ℕ, List, [], ◌∷◌, Bool, true, false, cond, not, length, map, Option, Some, None, Result, Ok, Err, arith, refl, sym, ap, subst, ◌∙◌}
use Rattle.std.specs.Prelude.{nat_lt, ◌==◌, ◌||◌, is_some}
use Rattle.mc_text.specs.model_text.specs.Text.{◌>>=◌, only_if}
use Rattle.mc_deck.specs.model_play.specs.declared.deck.DeckCause.{DeckCause}
use Rattle.mc_deck.specs.model_play.specs.DeckGrammar.{deck_read, DeckLine}
use Rattle.mc_deck.specs.declared.refusal.DeckRefusal.{DeckRefusal}
use Rattle.mc_deck.specs.declared.refusal.DeckRefusal.TheVariants as refusal
use Rattle.mc_deck.specs.Refused.{DeckRefuses}
use Rattle.law_histories.specs.law_explore.specs.Rules as model
use Rattle.law_histories.specs.law_explore.specs.Rules.{is_some_of}
use Rattle.prove_facts.specs.model_rules.specs.Rules.{AppRules, OnLine, SumLine, Target, Total}
use Rattle.law_histories.specs.model_rule_text.specs.Reading.{Deck, app_rules_read}
use Rattle.law_histories.specs.Histories.{app_exploration_read, can_break, line_fault, tested, AppExploration, AppFault, NoMove, NoRule}
use Rattle.lab_app_rules.specs.declared.rules.Always.{Always}
use Rattle.lab_app_rules.specs.declared.rules.Balance.{Balance}
use Rattle.lab_app_rules.specs.declared.rules.Effect.{Effect}
use Rattle.lab_app_rules.specs.declared.rules.Effect.TheVariants as effect
use Rattle.lab_app_rules.specs.declared.rules.On.{On}
use Rattle.lab_app_rules.specs.declared.rules.Rules.{Rules}
use Rattle.lab_app_rules.specs.Rules.{deed_of, name_of, range_of, AreLines, FirstLine}
use Rattle.lab_app_rules.specs.Rules.{AreRules as AreAppRules}
use Rattle.prove_rules.specs.declared.fault.RuleCause.{RuleCause as CodeCause}
use Rattle.prove_rules.specs.declared.fault.RuleCause.TheVariants as cause
use Rattle.prove_rules.specs.declared.fault.RuleRefusal.{RuleRefusal}
use Rattle.prove_rules.specs.declared.fault.RuleRefusal.TheVariants as rule
use Rattle.prove_rules.specs.Refused.{cause_value, RefusesRules}
use Rattle.lab_app_rules.specs.Sums.{move_of, AreSumLines, AreSums, AreTotals, FirstSumLine}
use Rattle.lab_rules.specs.declared.rules.Move.{Move}
use Rattle.lab_rules.specs.Meanings.{AlikeLists, AreRules, IsMove}
use Rattle.lab_deck.specs.declared.reading.Application.{Application}
use Rattle.lab_deck.specs.declared.refusal.ApplicationRefusal.TheVariants as refused
use Rattle.lab_deck.specs.Applications.{AreMovesRefused, counting, first_refusal, move_refusal, IsApplication, IsApplicationRead, RefusesApplication}
use Rattle.lab_deck.specs.Moves.{moves_read, AreMovesRead}
use Rattle.lab_deck.proofs.TogetherLemmas.{before_or, explored_by, from_parts, rules_refused, together}

-- ---- rules that can be broken

some_first : (b : Bool) → (b || true) ≡ true
some_first true = refl
some_first false = refl

-- the first line is about an allowance or about a sum
first_by : (e : Effect) (names sums : List (List ℕ)) (ls : List OnLine) (ms : List SumLine) (on : On) (p : List OnLine → Type 0) (q : List SumLine → Type 0) → FirstLine (deed_of e) names ls on p → FirstSumLine (move_of e) sums ms on q
    → (is_some_of ls || is_some_of ms) ≡ true
first_by (effect.Allow k) names sums [] ms on p q h i = absurd h
first_by (effect.Allow k) names sums (l ∷ ls) ms on p q h i = refl
first_by (effect.Spend k) names sums [] ms on p q h i = absurd h
first_by (effect.Spend k) names sums (l ∷ ls) ms on p q h i = refl
first_by (effect.Need k) names sums [] ms on p q h i = absurd h
first_by (effect.Need k) names sums (l ∷ ls) ms on p q h i = refl
first_by (effect.Add k) names sums ls [] on p q h i = absurd i
first_by (effect.Add k) names sums ls (m ∷ ms) on p q h i = some_first (is_some_of ls)
first_by (effect.Take k) names sums ls [] on p q h i = absurd i
first_by (effect.Take k) names sums ls (m ∷ ms) on p q h i = some_first (is_some_of ls)

lines_some : (names sums : List (List ℕ)) (ls : List OnLine) (ms : List SumLine) (ons : List On) → AreLines names ls ons → AreSumLines sums ms ons → (is_some_of ls || is_some_of ms) ≡ is_some_of ons
lines_some names sums [] [] [] h i = refl
lines_some names sums (l ∷ ls) ms [] h i = absurd h
lines_some names sums [] (m ∷ ms) [] h i = absurd i
lines_some names sums [] [] (on ∷ ons) h i = first_by on.effect names sums [] [] on (λ more. AreLines names more ons) (λ more. AreSumLines sums more ons) h i
lines_some names sums [] (m ∷ ms) (on ∷ ons) h i = first_by on.effect names sums [] (m ∷ ms) on (λ more. AreLines names more ons) (λ more. AreSumLines sums more ons) h i
lines_some names sums (l ∷ ls) [] (on ∷ ons) h i = first_by on.effect names sums (l ∷ ls) [] on (λ more. AreLines names more ons) (λ more. AreSumLines sums more ons) h i
lines_some names sums (l ∷ ls) (m ∷ ms) (on ∷ ons) h i = first_by on.effect names sums (l ∷ ls) (m ∷ ms) on (λ more. AreLines names more ons) (λ more. AreSumLines sums more ons) h i

ranges_some : (xs : List Always) → is_some_of (map range_of xs) ≡ is_some_of xs
ranges_some [] = refl
ranges_some (x ∷ xs) = refl

totals_some : (names : List (List ℕ)) (ts : List Total) (bs : List Balance) → AreTotals names ts bs → is_some_of ts ≡ is_some_of bs
totals_some names [] [] h = refl
totals_some names (t ∷ ts) (b ∷ bs) h = refl
totals_some names [] (b ∷ bs) h = absurd h
totals_some names (t ∷ ts) [] h = absurd h

-- whether rules have a line that can be broken, by what they have
pub can_break_is : (a : AppRules) (g : Target) (r : Rules) → AreAppRules a g r → AreSums a r → can_break a ≡ (is_some_of r.ons.items || is_some r.never || is_some_of r.always.items || is_some_of r.balances.items)
can_break_is a g r h s =
    ap (λ b. b || is_some a.abends || is_some_of a.ranges || is_some_of a.totals) (lines_some (map name_of r.allowances.items) (map name_of r.sums.items) a.ons a.moves r.ons.items h.ons s.lines)
    ∙ ap (λ o. is_some_of r.ons.items || is_some o || is_some_of a.ranges || is_some_of a.totals) h.abends
    ∙ ap (λ b. is_some_of r.ons.items || is_some r.never || b || is_some_of a.totals) (ap is_some_of h.ranges ∙ ranges_some r.always.items)
    ∙ ap (λ b. is_some_of r.ons.items || is_some r.never || is_some_of r.always.items || b) (totals_some (map name_of r.sums.items) a.totals r.balances.items s.totals)

-- the same of what the code has of the four
pub can_break_by : (a : AppRules) (g : Target) (r : Rules) (x y z w : Bool) → x ≡ is_some_of r.ons.items → y ≡ is_some r.never → z ≡ is_some_of r.always.items → w ≡ is_some_of r.balances.items → AreAppRules a g r → AreSums a r
    → (x || y || z || w) ≡ can_break a
can_break_by a g r x y z w e f i j h s =
    ap (λ b. b || y || z || w) e ∙ ap (λ b. is_some_of r.ons.items || b || z || w) f ∙ ap (λ b. is_some_of r.ons.items || is_some r.never || b || w) i
    ∙ ap (λ b. is_some_of r.ons.items || is_some r.never || is_some_of r.always.items || b) j ∙ sym (can_break_is a g r h s)

pub some_by : {A : Type 0} (xs : List A) (b : Bool) → (length xs == 0) ≡ b → is_some_of xs ≡ not b
some_by [] true e = refl
some_by [] false e = absurd (cc e)
some_by (x ∷ xs) true e = grind (arith, e)
some_by (x ∷ xs) false e = refl

-- ---- as the code refuses it

by_test : (x : Result AppExploration AppFault) (m n : ℕ) (f : DeckCause) (c : CodeCause) (b : Bool) → x ≡ Err (line_fault (cond b (m, Deck f) (n, cause_value c)))
    → RefusesApplication x (cond b (refused.Line m (cause.Deck f)) (refused.Line n c))
by_test x m n f c true h = h
by_test x m n f c false h = h

by_moves : (x : Result AppExploration AppFault) (n : ℕ) (c : CodeCause) (y : Result (List model.Move) (ℕ × DeckCause)) (o : Option DeckRefusal) → AreMovesRefused y o → x ≡ Err (line_fault (before_or (n, cause_value c) y))
    → RefusesApplication x (first_refusal (rule.At n c) o)
by_moves x n c y None are h = h ∙ ap (λ y. Err (line_fault (before_or (n, cause_value c) y))) are.1
by_moves x n c y (Some (refusal.At m f)) are h = by_test x m n f c (nat_lt m n || n == 0) (h ∙ ap (λ y. Err (line_fault (before_or (n, cause_value c) y))) are)
by_moves x n c y (Some refusal.NoMemory) are h = tt

-- a rule that is refused, or a move before it
pub rule_refused : (text : List ℕ) (d : List (ℕ × DeckLine)) (r : RuleRefusal) (o : Option DeckRefusal) → AreMovesRefused (moves_read text) o → deck_read text ≡ Ok d → RefusesRules (app_rules_read text) r
    → RefusesApplication (app_exploration_read text) (first_refusal r o)
rule_refused text d (rule.At n c) o are e h = by_moves (app_exploration_read text) n c (moves_read text) o are (rules_refused text d (n, cause_value c) e h)
rule_refused text d rule.NoMemory o are e h = tt

-- ---- as the code reads it

alike_some : (xs : List Move) (ys : List model.Move) → AlikeLists IsMove xs ys → is_some_of ys ≡ is_some_of xs
alike_some [] [] h = refl
alike_some (x ∷ xs) (y ∷ ys) h = refl
alike_some [] (y ∷ ys) h = absurd h
alike_some (x ∷ xs) [] h = absurd h

-- the moves that were read
pub record MovesRead (ms : List Move) (y : Result (List model.Move) (ℕ × DeckCause)) : Type 0 where
  pub moves : List model.Move
  pub is : y ≡ Ok moves
  pub are : AlikeLists IsMove ms moves

pub moves_of : (ms : List Move) (y : Result (List model.Move) (ℕ × DeckCause)) → AreMovesRead ms y → MovesRead ms y
moves_of ms (Ok ns) h = record { moves = ns; is = refl; are = h }
moves_of ms (Err e) h = absurd h

module _ (text : List ℕ) (d : List (ℕ × DeckLine)) (a : AppRules) (g : Target) (r : Rules) (deck : deck_read text ≡ Ok d) (read : app_rules_read text ≡ Ok a) (are : AreAppRules a g r) (sums : AreSums a r) where
  whole_by : (y : Result (List model.Move) (ℕ × DeckCause)) → moves_read text ≡ y → app_exploration_read text ≡ from_parts d (together (Ok a) y)
  whole_by y e = explored_by text d a deck read ∙ ap (λ y. from_parts d (together (Ok a) y)) e

  -- with moves that were read, by whether there is one and whether a rule can be broken
  tested_by : (ms : List Move) (m b : Bool) (h : MovesRead ms (moves_read text)) → is_some_of ms ≡ m → can_break a ≡ b
      → app_exploration_read text ≡ (only_if m NoMove h.moves >>= λ ns. only_if b NoRule a >>= λ s. Ok (record { lines = d; moves = ns; rules = s; target = g }))
  tested_by ms m b h e f =
      whole_by (Ok h.moves) h.is ∙ ap (tested d h.moves a) are.target
      ∙ ap (λ x. only_if x NoMove h.moves >>= λ ns. only_if (can_break a) NoRule a >>= λ s. Ok (record { lines = d; moves = ns; rules = s; target = g })) (alike_some ms h.moves h.are ∙ e)
      ∙ ap (λ x. only_if m NoMove h.moves >>= λ ns. only_if x NoRule a >>= λ s. Ok (record { lines = d; moves = ns; rules = s; target = g })) f

  -- a move that is refused
  pub move_refused : (r : DeckRefusal) → DeckRefuses (moves_read text) r → RefusesApplication (app_exploration_read text) (move_refusal r)
  move_refused (refusal.At n c) h = whole_by (Err (n, c)) h
  move_refused refusal.NoMemory h = tt

  -- no move
  pub no_move : (ms : List Move) (b : Bool) → (length ms == 0) ≡ b → b ≡ true → AreMovesRead ms (moves_read text) → app_exploration_read text ≡ Err NoMove
  no_move ms b e t h = tested_by ms false (can_break a) (moves_of ms (moves_read text) h) (some_by ms true (e ∙ t)) refl

  -- no rule that can be broken
  pub no_rule : (ms : List Move) (b c : Bool) → (length ms == 0) ≡ b → b ≡ false → c ≡ can_break a → c ≡ false → AreMovesRead ms (moves_read text) → app_exploration_read text ≡ Err NoRule
  no_rule ms b c e t i f h = tested_by ms true false (moves_of ms (moves_read text) h) (some_by ms false (e ∙ t)) (sym i ∙ f)

  -- a deck that is explored
  pub is_read : (ms : List Move) (b c : Bool) (x : Application) → (length ms == 0) ≡ b → b ≡ false → c ≡ can_break a → c ≡ true → AreMovesRead ms (moves_read text)
      → x.moves.deck ≡ d → ((ns : List model.Move) → AlikeLists IsMove ms ns → AreRules x.moves.rules (record counting { moves = ns })) → x.rules ≡ r → g.name ≡ x.aid → IsApplicationRead x (app_exploration_read text)
  is_read ms b c x e t i f h same rules own name =
      let m = moves_of ms (moves_read text) h in
      let made : AppExploration = record { lines = d; moves = m.moves; rules = a; target = g } in
      let whole : app_exploration_read text ≡ Ok made = tested_by ms true true m (some_by ms false (e ∙ t)) (sym i ∙ f) in
      let is : IsApplication x made = record {
        deck = same;
        moves = rules m.moves m.are;
        rules = subst (AreAppRules a g) (sym own) are;
        sums = subst (AreSums a) (sym own) sums;
        name = name;
      } in
      subst (IsApplicationRead x) (sym whole) is

-- two decks of one text are the same
pub same_deck : (text : List ℕ) (d e : List (ℕ × DeckLine)) → deck_read text ≡ Ok d → deck_read text ≡ Ok e → d ≡ e
same_deck text d e h i = cc (sym h ∙ i)
