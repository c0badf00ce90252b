-- The lines of a text, read rule by rule.
use Rattle.std.proofs.Common.{◌≡◌, ◌+◌, ◌≤◌, ◌<◌, ℕ, suc, List, [], ◌∷◌, ◌++◌, Bool, true, false, cond, length, Some, None, Result, Ok, Err, arith, add-one, refl, sym, ap, subst, ◌∙◌}
use Rattle.std.specs.Prelude.{◌==◌, ◌&&◌, not, bytes_eq, codes, ok_or}
use Rattle.std.proofs.lemmas.Slice.Eq.{bytes_eq-Decides}
use Rattle.model_device.specs.Bytes.{lookup}
use Rattle.mc_text.specs.model_text.specs.Text.{◌>>=◌, err_as, fields, lines, ok_as, only_if, trim, with_numbers}
use Rattle.law_explore.specs.model_play.specs.declared.deck.DeckCause.{DeckCause}
use Rattle.law_explore.specs.model_play.specs.declared.deck.DeckCause.TheVariants.{BadLine}
use Rattle.law_explore.specs.model_play.specs.DeckGrammar.{deck_lines, deck_read, turn_at, turn_in, DeckLine, LineTurn, Mode}
use Rattle.law_explore.specs.Rules as model
use Rattle.law_explore.specs.Rules.{exploration_read, is_some_of, line_fault, no_rules, rule_words, tested_rules, ExplorationFault, NoMove, NoRule, rules_from, rules_read, with_line, with_rule, without_field, RuleWord}
use Rattle.law_explore.specs.model_play.specs.RuleLines.{is_marked, line_if, marked_lines}
use Rattle.law_explore.specs.model_text.specs.Text.{stays_inside}
use Rattle.mc_text.specs.Reading.{next_line}
use Rattle.mc_text.proofs.ReadingLemmas.{lines_at, lines_from}
use Rattle.mc_deck.specs.declared.refusal.DeckRefusal.{DeckRefusal}
use Rattle.mc_deck.specs.declared.refusal.DeckRefusal.TheVariants as refusal
use Rattle.mc_deck.specs.Refused.{DeckRefuses, Faulty}
use Rattle.lab_rules.specs.declared.rules.Move.{Move}
use Rattle.lab_rules.specs.declared.rules.Allowance.{Allowance}
use Rattle.lab_rules.specs.declared.rules.OnRule.{OnRule}
use Rattle.mc_deck.specs.declared.refusal.Fault.{Fault}
use Rattle.mc_deck.specs.declared.refusal.Fault.TheVariants as fault
use Rattle.lab_rules.specs.declared.reading.Exploration.{Exploration}
use Rattle.lab_match.specs.Fields.{rest_of}
use Rattle.lab_match.proofs.FieldLemmas.{fields_trimmed}
use Rattle.lab_rules.specs.Fields.{IsOneLine}
use Rattle.lab_rules.proofs.FieldLemmas.{one_line_rest, one_line_trim, trim_rest}
use Rattle.lab_rules.specs.declared.rules.Rules.{Rules}
use Rattle.lab_rules.specs.Meanings.{is_plain_mark, is_rule, line_refusal, refusal_at, rule_of, rules_with, AlikeLists, AreListsRead, AreRuleLists, AreRules, AreRulesRead, IsMove, IsOn, RefusesExploration, IsExplorationRead, IsRuleText}

-- ---- one line

with_mark : (r : model.Rules) (n : ℕ) (line : List ℕ) (fs : List (List ℕ)) → with_line r (n, line) (codes "#@" ∷ fs) ≡ rule_of r n (without_field line) fs
unfolding with_line
with_mark r n line [] = refl
with_mark r n line (word ∷ rest) = refl

-- a line that is a rule
pub rule_line : (r : model.Rules) (n : ℕ) (inside : Bool) (line text : List ℕ) → IsRuleText inside line text → rules_with inside (n, line) r ≡ rule_of r n text (fields text)
rule_line r n inside line text h =
    ap (λ b. cond b (with_line r (n, line) (fields line)) (Ok r)) h.rule ∙ ap (with_line r (n, line)) h.marked ∙ with_mark r n line (fields text)
    ∙ ap (λ t. rule_of r n t (fields text)) (sym h.left)

longer_line : (r : model.Rules) (l : ℕ × List ℕ) (fs : List (List ℕ)) → is_plain_mark fs ≡ false → with_line r l fs ≡ Err BadLine
unfolding with_line
longer_line r l [] h = refl
longer_line r l (mark ∷ []) h = refl
longer_line r l (mark ∷ word ∷ rest) h =
    ap (λ b. cond b (ok_or (lookup rule_words word) BadLine) (Err BadLine) >>= λ w. with_rule r l.0 (without_field (without_field l.1)) w rest) h

-- a line whose first field begins with the mark and is longer
pub longer_mark : (r : model.Rules) (n : ℕ) (inside : Bool) (line : List ℕ) → inside ≡ false → is_marked (fields line) ≡ true → is_plain_mark (fields line) ≡ false → rules_with inside (n, line) r ≡ Err BadLine
longer_mark r n inside line f m h =
    ap (λ b. cond (not b && is_marked (fields line)) (with_line r (n, line) (fields line)) (Ok r)) f
    ∙ ap (λ b. cond b (with_line r (n, line) (fields line)) (Ok r)) m ∙ longer_line r (n, line) (fields line) h

pub longer_fault : (r : model.Rules) (n : ℕ) (inside : Bool) (line : List ℕ) (e : Fault) → inside ≡ false → is_marked (fields line) ≡ true → e ≡ fault.Cause BadLine → is_plain_mark (fields line) ≡ false
    → Faulty (rules_with inside (n, line) r) e
longer_fault r n inside line e f m is h = subst (Faulty (rules_with inside (n, line) r)) (sym is) (longer_mark r n inside line f m h)

-- the text of a rule outside of a section
pub outside_rule : (inside : Bool) (line text : List ℕ) → inside ≡ false → IsRuleText false line text → IsRuleText inside line text
outside_rule inside line text f h = subst (λ b. IsRuleText b line text) (sym f) h

-- a line that is none
pub no_rule_line : (r : model.Rules) (n : ℕ) (inside : Bool) (line : List ℕ) → is_rule inside (fields line) ≡ false → rules_with inside (n, line) r ≡ Ok r
no_rule_line r n inside line h = ap (λ b. cond b (with_line r (n, line) (fields line)) (Ok r)) h

-- a rule by its word
pub word_rule : (r : model.Rules) (n : ℕ) (text word : List ℕ) (rest : List (List ℕ)) (w : RuleWord) → fields text ≡ word ∷ rest → Some w ≡ lookup rule_words word
    → rule_of r n text (fields text) ≡ with_rule r n (without_field text) w rest
word_rule r n text word rest w e h = ap (rule_of r n text) e ∙ ap (λ o. ok_or o BadLine >>= λ w. with_rule r n (without_field text) w rest) (sym h)

pub no_word : (r : model.Rules) (n : ℕ) (text word : List ℕ) (rest : List (List ℕ)) → fields text ≡ word ∷ rest → None ≡ lookup rule_words word → rule_of r n text (fields text) ≡ Err BadLine
no_word r n text word rest e h = ap (rule_of r n text) e ∙ ap (λ o. ok_or o BadLine >>= λ w. with_rule r n (without_field text) w rest) (sym h)

-- a rule by its word, its statement's text and its fields
pub kind_rule : (r : model.Rules) (n : ℕ) (text word behind : List ℕ) (w : RuleWord) → fields text ≡ word ∷ fields behind → behind ≡ rest_of text → Some w ≡ lookup rule_words word
    → with_rule r n (trim behind) w (fields behind) ≡ rule_of r n text (fields text)
kind_rule r n text word behind w e i h =
    ap (λ t. with_rule r n t w (fields behind)) (ap trim i ∙ trim_rest text) ∙ sym (word_rule r n text word (fields behind) w e h)

-- the text of a rule
pub rule_text_is : (line text mark behind : List ℕ) → fields line ≡ mark ∷ fields behind → behind ≡ rest_of line → is_marked (fields line) ≡ true → bytes_eq mark (codes "#@") ≡ true → text ≡ trim behind → IsOneLine line
    → IsRuleText false line text
rule_text_is line text mark behind e i marked m t one = record {
  rule = marked;
  left = t ∙ ap trim i ∙ trim_rest line;
  marked = e ∙ ap (λ w. w ∷ fields behind) ((bytes_eq-Decides mark (codes "#@")).0 m) ∙ ap (λ fs. codes "#@" ∷ fs) (sym (fields_trimmed behind) ∙ ap fields (sym t));
  one = subst IsOneLine (sym t) (one_line_trim behind (one_line_rest line behind i one));
}

-- a longer mark
pub longer_is : (line mark behind : List ℕ) → fields line ≡ mark ∷ fields behind → bytes_eq mark (codes "#@") ≡ false → is_plain_mark (fields line) ≡ false
longer_is line mark behind e m = ap is_plain_mark e ∙ m

-- ---- line by line

-- what the lines that are left make of rules
abbrev pub left_rules : model.Rules → Bool → ℕ → List ℕ → Result model.Rules (ℕ × DeckCause)
left_rules r inside n t = rules_from r (marked_lines inside (with_numbers n (lines t)))

line_by : (r : model.Rules) (n : ℕ) (l : List ℕ) (b : Bool) (rest : List (ℕ × List ℕ))
    → rules_from r (line_if b (n, l) rest) ≡ (err_as (λ e. (n, e)) (cond b (with_line r (n, l) (fields l)) (Ok r)) >>= λ s. rules_from s rest)
unfolding rules_from
line_by r n l true rest = refl
line_by r n l false rest = refl

numbered : (n : ℕ) (t l b : List ℕ) → Some (l, b) ≡ next_line t → with_numbers n (lines t) ≡ (n, l) ∷ with_numbers (n + 1) (lines b)
numbered n t l b e = ap (with_numbers n) (lines_at t ∙ ap lines_from (sym e)) ∙ ap (λ k. (n, l) ∷ with_numbers k (lines b)) (sym (add-one n))

line_step : (r : model.Rules) (inside : Bool) (n : ℕ) (t l b : List ℕ) → Some (l, b) ≡ next_line t
    → left_rules r inside n t ≡ (err_as (λ e. (n, e)) (rules_with inside (n, l) r) >>= λ s. left_rules s (stays_inside inside (fields l)) (n + 1) b)
unfolding marked_lines
line_step r inside n t l b e =
    ap (λ ls. rules_from r (marked_lines inside ls)) (numbered n t l b e)
    ∙ line_by r n l (is_rule inside (fields l)) (marked_lines (stays_inside inside (fields l)) (with_numbers (n + 1) (lines b)))

no_line : (r : model.Rules) (inside : Bool) (n : ℕ) (t : List ℕ) → None ≡ next_line t → left_rules r inside n t ≡ Ok r
unfolding marked_lines rules_from
no_line r inside n t e = ap (λ ls. rules_from r (marked_lines inside (with_numbers n ls))) (lines_at t ∙ ap lines_from (sym e))

-- the rules so far, with those of the lines that are left, are all
pub record RulesLeft (ms : List Move) (held : List Allowance) (os : List OnRule) (inside : Bool) (n : ℕ) (t : List ℕ) (whole : Result model.Rules (ℕ × DeckCause)) : Type 0 where
  pub rules : model.Rules
  pub are : AreRuleLists ms held os rules
  pub leads : left_rules rules inside n t ≡ whole

-- no line yet
pub rules_start : (ms : List Move) (held : List Allowance) (os : List OnRule) (t : List ℕ) → ms ≡ [] → held ≡ [] → os ≡ [] → RulesLeft ms held os false 1 t (rules_read t)
unfolding rules_read
rules_start ms held os t e f g =
    let none : AreRuleLists [] [] [] no_rules = record { moves = tt; allowances = refl; distinct = tt; ons = tt } in
    record {
      rules = no_rules;
      are = subst (λ (m : List Move). AreRuleLists m held os no_rules) (sym e) (subst (λ (a : List Allowance). AreRuleLists [] a os no_rules) (sym f) (subst (λ (o : List OnRule). AreRuleLists [] [] o no_rules) (sym g) none));
      leads = refl;
    }

step_by : (ms : List Move) (held : List Allowance) (os : List OnRule) (inside : Bool) (n k : ℕ) (b : List ℕ) (whole : Result model.Rules (ℕ × DeckCause)) (x : Result model.Rules DeckCause) → AreListsRead ms held os x
    → (err_as (λ e. (n, e)) x >>= λ s. left_rules s inside k b) ≡ whole → RulesLeft ms held os inside k b whole
step_by ms held os inside n k b whole (Ok s) h e = record { rules = s; are = h; leads = e }
step_by ms held os inside n k b whole (Err c) h e = absurd h

-- one more line
pub rules_step : (ms ns : List Move) (held bs : List Allowance) (os ps : List OnRule) (inside : Bool) (n : ℕ) (t l b : List ℕ) (whole : Result model.Rules (ℕ × DeckCause)) → Some (l, b) ≡ next_line t
    → ((r : model.Rules) → AreRuleLists ms held os r → AreListsRead ns bs ps (rules_with inside (n, l) r)) → RulesLeft ms held os inside n t whole
    → RulesLeft ns bs ps (stays_inside inside (fields l)) (n + 1) b whole
rules_step ms ns held bs os ps inside n t l b whole e added h =
    step_by ns bs ps (stays_inside inside (fields l)) n (n + 1) b whole (rules_with inside (n, l) h.rules) (added h.rules h.are) (sym (line_step h.rules inside n t l b e) ∙ h.leads)

-- a line that is refused
pub rules_refused : (ms : List Move) (held : List Allowance) (os : List OnRule) (inside : Bool) (n : ℕ) (t l b : List ℕ) (whole : Result model.Rules (ℕ × DeckCause)) (c : DeckCause) → Some (l, b) ≡ next_line t
    → ((r : model.Rules) → AreRuleLists ms held os r → rules_with inside (n, l) r ≡ Err c) → RulesLeft ms held os inside n t whole → whole ≡ Err (n, c)
rules_refused ms held os inside n t l b whole c e refused h =
    sym h.leads ∙ line_step h.rules inside n t l b e ∙ ap (λ x. err_as (λ e. (n, e)) x >>= λ s. left_rules s (stays_inside inside (fields l)) (n + 1) b) (refused h.rules h.are)

-- the same, by the refusal without its number
pub rules_refuse : (ms : List Move) (held : List Allowance) (os : List OnRule) (inside : Bool) (n : ℕ) (t l b : List ℕ) (whole : Result model.Rules (ℕ × DeckCause)) (f : Fault) → Some (l, b) ≡ next_line t
    → ((r : model.Rules) → AreRuleLists ms held os r → Faulty (rules_with inside (n, l) r) f) → RulesLeft ms held os inside n t whole → DeckRefuses whole (refusal_at n f)
rules_refuse ms held os inside n t l b whole (fault.Cause c) e refused h = rules_refused ms held os inside n t l b whole c e refused h
rules_refuse ms held os inside n t l b whole fault.NoMemory e refused h = tt

-- no line is left
pub rules_done : (ms : List Move) (held : List Allowance) (os : List OnRule) (inside : Bool) (n : ℕ) (t : List ℕ) (whole : Result model.Rules (ℕ × DeckCause)) → None ≡ next_line t → RulesLeft ms held os inside n t whole → AreListsRead ms held os whole
rules_done ms held os inside n t whole e h = subst (AreListsRead ms held os) (sym (no_line h.rules inside n t e) ∙ h.leads) h.are

-- ---- the number of lines

line_count : (t l b : List ℕ) → Some (l, b) ≡ next_line t → length (lines t) ≡ suc (length (lines b))
line_count t l b e = ap length (lines_at t ∙ ap lines_from (sym e))

-- one line fewer is left
pub few_step : (n : ℕ) (t l b : List ℕ) → Some (l, b) ≡ next_line t → n + length (lines t) ≤ 20000 → (n + 1) + length (lines b) ≤ 20000
few_step n t l b e h = let k = line_count t l b e in omega (arith, k, h)

pub few_now : (n : ℕ) (t l b : List ℕ) → Some (l, b) ≡ next_line t → n + length (lines t) ≤ 20000 → n < 20000
few_now n t l b e h = let k = line_count t l b e in omega (arith, k, h)

abbrev Rest : Type 0
Rest = List (ℕ × DeckLine)

read_by : (a x : Result Rest (ℕ × DeckCause)) (f : Rest → Rest) (d : Rest) → x ≡ a → ok_as f x ≡ Ok d → (e : Rest) × (x ≡ Ok e)
read_by (Ok e) x f d i h = (e, i)
read_by (Err e) x f d i h = absurd (cc (sym (ap (ok_as f) i) ∙ h))

turn_by : (r : Result LineTurn (ℕ × DeckCause)) (ls : List (ℕ × List ℕ)) (d : Rest) → (r >>= λ t. ok_as (λ rest. t.lines ++ rest) (deck_lines t.mode ls)) ≡ Ok d
    → (m : Mode) × (e : Rest) × (deck_lines m ls ≡ Ok e)
turn_by (Ok t) ls d h =
    let r = read_by (deck_lines t.mode ls) (deck_lines t.mode ls) (λ rest. t.lines ++ rest) d refl h in
    (t.mode, r.0, r.1)
turn_by (Err e) ls d h = absurd (cc h)

few_by : (n : ℕ) (m : Mode) (l : List ℕ) (ls : List (List ℕ)) (d : Rest) (b : Bool) → (n == 20001) ≡ b → n ≤ 20001
    → (turn_at b m (n, l) >>= λ t. ok_as (λ rest. t.lines ++ rest) (deck_lines t.mode (with_numbers (suc n) ls))) ≡ Ok d
    → ((m : Mode) (d : Rest) → deck_lines m (with_numbers (suc n) ls) ≡ Ok d → suc n ≤ 20001 → suc n + length ls ≤ 20001) → n + suc (length ls) ≤ 20001
few_by n m l ls d true e h i again = absurd (cc i)
few_by n m l ls d false e h i again =
    let t = turn_by (turn_in m (n, l)) (with_numbers (suc n) ls) d i in
    let k = again t.0 t.1 t.2 (grind (arith, e, h)) in
    omega (arith, k)

few_from : (n : ℕ) (m : Mode) (ls : List (List ℕ)) (d : Rest) → deck_lines m (with_numbers n ls) ≡ Ok d → n ≤ 20001 → n + length ls ≤ 20001
unfolding deck_lines
few_from n m [] d i h = omega (arith, h)
few_from n m (l ∷ ls) d i h = few_by n m l ls d (n == 20001) refl h i (λ k e j g. few_from (suc n) k ls e j g)

-- a deck has at most 20,000 lines
pub few_lines : (t : List ℕ) (d : Rest) → deck_read t ≡ Ok d → length (lines t) ≤ 20000
unfolding deck_read
few_lines t d h = let k = few_from 1 _ (lines t) d h (omega arith) in omega (arith, k)

-- ---- a deck and its rules

abbrev explored_rules : Rest → model.Rules → Result model.Exploration ExplorationFault
explored_rules ls r = ok_as (λ s. record { lines = ls; rules = s }) (tested_rules r)

abbrev explored_lines : Result model.Rules (ℕ × DeckCause) → Rest → Result model.Exploration ExplorationFault
explored_lines y ls = err_as line_fault y >>= explored_rules ls

-- the deck is refused
pub deck_refused : (t : List ℕ) (e : DeckRefusal) → DeckRefuses (deck_read t) e → RefusesExploration (exploration_read t) (line_refusal e)
unfolding exploration_read
deck_refused t (refusal.At n c) h = ap (λ x. err_as line_fault x >>= explored_lines (rules_read t)) h
deck_refused t refusal.NoMemory h = tt

whole_by : (t : List ℕ) (ls : Rest) → deck_read t ≡ Ok ls → exploration_read t ≡ explored_lines (rules_read t) ls
unfolding exploration_read
whole_by t ls h = ap (λ x. err_as line_fault x >>= explored_lines (rules_read t)) h

-- the rules are refused
pub rules_are_refused : (t : List ℕ) (ls : Rest) (e : DeckRefusal) → deck_read t ≡ Ok ls → DeckRefuses (rules_read t) e → RefusesExploration (exploration_read t) (line_refusal e)
rules_are_refused t ls (refusal.At n c) i h = whole_by t ls i ∙ ap (λ y. explored_lines y ls) h
rules_are_refused t ls refusal.NoMemory i h = tt

alike_some : {A B : Type 0} (R : A → B → Type 0) (xs : List A) (ys : List B) → AlikeLists R xs ys → is_some_of ys ≡ is_some_of xs
alike_some R [] [] h = refl
alike_some R (x ∷ xs) (y ∷ ys) h = refl
alike_some R [] (y ∷ ys) h = absurd h
alike_some R (x ∷ xs) [] h = absurd h

some_by : {A : Type 0} (xs : List A) (b : Bool) → (length xs == 0) ≡ b → is_some_of xs ≡ not b
some_by [] true e = refl
some_by [] false e = absurd (cc e)
some_by (x ∷ xs) true e = grind (arith, e)
some_by (x ∷ xs) false e = refl

-- rules that were read, by whether there is a move and an `on` line
abbrev tested_as : Bool → Bool → model.Rules → Result model.Rules ExplorationFault
tested_as moves ons r = only_if moves NoMove r >>= λ s. only_if ons NoRule s

tested_bool : (r : model.Rules) (m : Bool) → (only_if m NoMove r >>= λ s. only_if (is_some_of s.ons) NoRule s) ≡ tested_as m (is_some_of r.ons) r
tested_bool r true = refl
tested_bool r false = refl

module _ (t : List ℕ) (ls : Rest) (c : Rules) (deck : deck_read t ≡ Ok ls) where
  -- an exploration by its rules
  explored_by : (y : Result model.Rules (ℕ × DeckCause)) → rules_read t ≡ y → AreRulesRead c y
      → (r : model.Rules) × AreRules c r × (exploration_read t ≡ ok_as (λ s. record { lines = ls; rules = s }) (tested_as (is_some_of c.moves.items) (is_some_of c.ons.items) r))
  explored_by (Err e) i h = absurd h
  explored_by (Ok r) i h = (
    r,
    h,
    whole_by t ls deck ∙ ap (λ y. explored_lines y ls) i ∙ ap (ok_as (λ s. record { lines = ls; rules = s })) (
        tested_bool r (is_some_of r.moves)
        ∙ ap (λ m. tested_as m (is_some_of r.ons) r) (alike_some IsMove c.moves.items r.moves h.moves)
        ∙ ap (λ o. tested_as (is_some_of c.moves.items) o r) (alike_some (IsOn r.allowances) c.ons.items r.ons h.ons)
        ),
  )

  abbrev as_made : model.Rules → Bool → Bool → Result model.Exploration ExplorationFault
  as_made r moves ons = ok_as (λ s. record { lines = ls; rules = s }) (tested_as moves ons r)

  -- there is no move
  pub no_move : (length c.moves.items == 0) ≡ true → AreRulesRead c (rules_read t) → exploration_read t ≡ Err NoMove
  no_move none h =
      let e = explored_by (rules_read t) refl h in
      e.2 ∙ ap (λ m. as_made e.0 m (is_some_of c.ons.items)) (some_by c.moves.items true none)

  -- there is no `on` line
  pub no_rule : (length c.moves.items == 0) ≡ false → (length c.ons.items == 0) ≡ true → AreRulesRead c (rules_read t) → exploration_read t ≡ Err NoRule
  no_rule some none h =
      let e = explored_by (rules_read t) refl h in
      e.2 ∙ ap (λ m. as_made e.0 m (is_some_of c.ons.items)) (some_by c.moves.items false some) ∙ ap (as_made e.0 true) (some_by c.ons.items true none)

  -- a deck with its rules is read
  pub is_explored : (length c.moves.items == 0) ≡ false → (length c.ons.items == 0) ≡ false → AreRulesRead c (rules_read t) → (x : Exploration) → x.deck ≡ ls → x.rules ≡ c → IsExplorationRead x (exploration_read t)
  is_explored some ons h x d r =
      let e = explored_by (rules_read t) refl h in
      let made : exploration_read t ≡ Ok (record { lines = ls; rules = e.0 }) =
      e.2 ∙ ap (λ m. as_made e.0 m (is_some_of c.ons.items)) (some_by c.moves.items false some) ∙ ap (as_made e.0 true) (some_by c.ons.items false ons) in
      subst (IsExplorationRead x) (sym made) (d, subst (λ (z : Rules). AreRules z e.0) (sym r) e.1)
