-- The lines of a text, read rule by rule.
use Rattle.std.proofs.Common.{◌≡◌, ◌+◌, ℕ, List, [], ◌∷◌, Bool, true, false, not, cond, length, map, Some, None, Result, Ok, Err, arith, refl, sym, ap, subst, ◌∙◌}
use Rattle.std.specs.Prelude.{◌&&◌, codes, is_some, ok_or, IfErr, IfOk}
use Rattle.mc_words.specs.model_device.specs.Bytes.{lookup}
use Rattle.mc_text.specs.model_text.specs.Text.{◌>>=◌, err_as, fields, lines, only_if, with_numbers}
use Rattle.model_rule_text.specs.model_play.specs.declared.deck.DeckCause.TheVariants.{BadLine}
use Rattle.model_rule_text.specs.model_play.specs.DeckGrammar.{deck_read, DeckLine}
use Rattle.model_rule_text.specs.model_play.specs.RuleLines.{is_marked, line_if, marked_lines}
use Rattle.model_rule_text.specs.model_text.specs.Text.{stays_inside}
use Rattle.prove_facts.specs.model_rules.specs.Rules.{no_app_rules, AppRules, Target}
use Rattle.model_rule_text.specs.Reading.{AppWord, Deck, LoadLine, NoApplication, MoveLine, OnWord, AlwaysLine, RuleCause, always_line, app_line, app_rule, app_rules_from, app_rules_read, app_words, on_line, with_some_app}
use Rattle.mc_text.specs.Reading.{next_line}
use Rattle.lab_app_rules.specs.declared.rules.Rules.{Rules}
use Rattle.lab_app_rules.specs.declared.rules.Named.{Named}
use Rattle.lab_app_rules.specs.declared.rules.Balance.{Balance}
use Rattle.lab_app_rules.specs.declared.rules.On.{On}
use Rattle.lab_app_rules.specs.Rules.{allowance_of, name_of, range_of, AreDistinct, AreLines, AreRules}
use Rattle.prove_rules.specs.declared.fault.Fault.{Fault}
use Rattle.prove_rules.specs.declared.fault.Fault.TheVariants as fault
use Rattle.prove_rules.specs.declared.fault.RuleCause.TheVariants as cause
use Rattle.prove_rules.specs.declared.fault.RuleRefusal.{RuleRefusal}
use Rattle.prove_rules.specs.declared.fault.RuleRefusal.TheVariants as refusal
use Rattle.prove_rules.specs.declared.partial.Partial.{Partial}
use Rattle.prove_rules.specs.Lines.{is_plain_mark, lines_read, rule_of, rules_with}
use Rattle.prove_rules.specs.Loads.{loads_in}
use Rattle.prove_rules.specs.Partials.{ArePart, ArePartRead, IsFinished}
use Rattle.prove_rules.proofs.LoadLemmas.{no_lines, numbered}
use Rattle.prove_rules.specs.Refused.{refusal_at, Faulty, RefusesRules}
use Rattle.lab_app_rules.specs.Sums.{AreSumLines, AreSums, AreTotals}
use Rattle.prove_rules.proofs.OnLemmas.{no_target, target_is}
use Rattle.prove_rules.proofs.SumLemmas.{totals_count}

abbrev pub Loads : Type 0
Loads = List (List ℕ × LoadLine)

-- ---- rules by their words

pub on_is : (loads : Loads) (a : AppRules) (n : ℕ) (fs : List (List ℕ)) → app_rule loads a n OnWord fs ≡ on_line a n fs
unfolding app_rule
on_is loads a n fs = refl

pub always_is : (loads : Loads) (a : AppRules) (n : ℕ) (fs : List (List ℕ)) → app_rule loads a n AlwaysLine fs ≡ always_line a n fs
unfolding app_rule
always_is loads a n fs = refl

pub move_is : (loads : Loads) (a : AppRules) (n : ℕ) (fs : List (List ℕ)) → app_rule loads a n MoveLine fs ≡ Ok a
unfolding app_rule
move_is loads a n fs = refl

-- rules with that of one more line
abbrev pub Keeps : Loads → Partial → Partial → ℕ → List (List ℕ) → AppWord → Type 0
Keeps loads p q n fs w = (a : AppRules) → ArePart a p → ArePartRead (app_rule loads a n w fs) q

-- the fault of a rule by its word, and by all its fields
abbrev pub RuleFault : Loads → Partial → ℕ → AppWord → List (List ℕ) → Fault → Type 0
RuleFault loads p n w fs e = (a : AppRules) → ArePart a p → Faulty (app_rule loads a n w fs) e

abbrev pub WordFault : Loads → Partial → ℕ → List (List ℕ) → Fault → Type 0
WordFault loads p n fs e = (a : AppRules) → ArePart a p → Faulty (rule_of loads a n fs) e

abbrev pub TextFault : Loads → Partial → Bool → ℕ × List ℕ → Fault → Type 0
TextFault loads p inside l e = (a : AppRules) → ArePart a p → Faulty (rules_with loads inside l a) e

-- a rule by its word
pub word_is : (loads : Loads) (a : AppRules) (n : ℕ) (all fs : List (List ℕ)) (word : List ℕ) (w : AppWord) → all ≡ word ∷ fs → Some w ≡ lookup app_words word → app_rule loads a n w fs ≡ rule_of loads a n all
word_is loads a n all fs word w e h = sym (ap (rule_of loads a n) e ∙ ap (λ o. ok_or o (Deck BadLine) >>= λ w. app_rule loads a n w fs) (sym h))

-- ---- one line

with_mark : (loads : Loads) (a : AppRules) (n : ℕ) (fs : List (List ℕ)) → app_line loads a n (codes "#@" ∷ fs) ≡ rule_of loads a n fs
with_mark loads a n [] = refl
with_mark loads a n (word ∷ fs) = refl

-- a line that is a rule
pub rule_line : (loads : Loads) (a : AppRules) (n : ℕ) (inside : Bool) (l : List ℕ) (fs : List (List ℕ)) → inside ≡ false → is_marked (fields l) ≡ true → fields l ≡ codes "#@" ∷ fs → rule_of loads a n fs ≡ rules_with loads inside (n, l) a
rule_line loads a n inside l fs e m h = grind (arith, with_mark)

-- a line whose mark is longer
longer_by : (loads : Loads) (a : AppRules) (n : ℕ) (fs : List (List ℕ)) → is_plain_mark fs ≡ false → app_line loads a n fs ≡ Err (Deck BadLine)
longer_by loads a n fs h = grind arith

line_is : (loads : Loads) (a : AppRules) (n : ℕ) (inside : Bool) (l : List ℕ) → inside ≡ false → is_marked (fields l) ≡ true → rules_with loads inside (n, l) a ≡ app_line loads a n (fields l)
line_is loads a n inside l e m = grind arith

pub longer_mark : (loads : Loads) (a : AppRules) (n : ℕ) (inside : Bool) (l : List ℕ) → inside ≡ false → is_marked (fields l) ≡ true → is_plain_mark (fields l) ≡ false → rules_with loads inside (n, l) a ≡ Err (Deck BadLine)
longer_mark loads a n inside l e m h = line_is loads a n inside l e m ∙ longer_by loads a n (fields l) h

-- a rule without a word, or with another
pub no_word : (loads : Loads) (a : AppRules) (n : ℕ) (fs : List (List ℕ)) → fs ≡ [] → rule_of loads a n fs ≡ Err (Deck BadLine)
no_word loads a n fs e = ap (rule_of loads a n) e

pub other_word : (loads : Loads) (a : AppRules) (n : ℕ) (all fs : List (List ℕ)) (word : List ℕ) → all ≡ word ∷ fs → None ≡ lookup app_words word → rule_of loads a n all ≡ Err (Deck BadLine)
other_word loads a n all fs word e h = ap (rule_of loads a n) e ∙ ap (λ o. ok_or o (Deck BadLine) >>= λ w. app_rule loads a n w fs) (sym h)

no_rule_by : (inside marked : Bool) (r : Result AppRules RuleCause) (a : AppRules) → (not inside && marked) ≡ false → Ok a ≡ cond (not inside && marked) r (Ok a)
no_rule_by inside marked r a h = sym (ap (λ b. cond b r (Ok a)) h)

-- a line that is none
pub no_rule_line : (loads : Loads) (a : AppRules) (n : ℕ) (inside : Bool) (l : List ℕ) → (not inside && is_marked (fields l)) ≡ false → Ok a ≡ rules_with loads inside (n, l) a
no_rule_line loads a n inside l h = no_rule_by inside (is_marked (fields l)) (app_line loads a n (fields l)) a h

-- ---- line by line

-- what the lines that are left make of rules
abbrev pub left_rules : Loads → AppRules → Bool → ℕ → List ℕ → Result AppRules (ℕ × RuleCause)
left_rules loads a inside n t = app_rules_from loads a (marked_lines inside (with_numbers n (lines t)))

line_by : (loads : Loads) (a : AppRules) (n : ℕ) (l : List ℕ) (b : Bool) (rest : List (ℕ × List ℕ))
    → app_rules_from loads a (line_if b (n, l) rest) ≡ (err_as (λ e. (n, e)) (cond b (app_line loads a n (fields l)) (Ok a)) >>= λ s. app_rules_from loads s rest)
unfolding app_rules_from
line_by loads a n l true rest = refl
line_by loads a n l false rest = refl

line_step : (loads : Loads) (a : AppRules) (inside : Bool) (n : ℕ) (t l b : List ℕ) → Some (l, b) ≡ next_line t
    → left_rules loads a inside n t ≡ (err_as (λ e. (n, e)) (rules_with loads inside (n, l) a) >>= λ s. left_rules loads s (stays_inside inside (fields l)) (n + 1) b)
unfolding marked_lines
line_step loads a inside n t l b e =
    ap (λ ls. app_rules_from loads a (marked_lines inside ls)) (numbered n t l b e)
    ∙ line_by loads a n l (not inside && is_marked (fields l)) (marked_lines (stays_inside inside (fields l)) (with_numbers (n + 1) (lines b)))

no_line : (loads : Loads) (a : AppRules) (inside : Bool) (n : ℕ) (t : List ℕ) → None ≡ next_line t → left_rules loads a inside n t ≡ Ok a
unfolding marked_lines app_rules_from
no_line loads a inside n t e = ap (λ ls. app_rules_from loads a (marked_lines inside ls)) (no_lines n t e)

-- the rules so far, with those of the lines that are left, are all
pub record RulesLeft (loads : Loads) (p : Partial) (inside : Bool) (n : ℕ) (t : List ℕ) (whole : Result AppRules (ℕ × RuleCause)) : Type 0 where
  pub rules : AppRules
  pub are : ArePart rules p
  pub leads : left_rules loads rules inside n t ≡ whole

-- no line yet
pub rules_start : (d : List (ℕ × DeckLine)) (p : Partial) (t : List ℕ) → ArePart no_app_rules p → RulesLeft (loads_in t d) p false 1 t (lines_read t d)
rules_start d p t h = record { rules = no_app_rules; are = h; leads = refl }

step_by : (loads : Loads) (p : Partial) (inside : Bool) (n k : ℕ) (b : List ℕ) (whole : Result AppRules (ℕ × RuleCause)) (x : Result AppRules RuleCause) → ArePartRead x p
    → (err_as (λ e. (n, e)) x >>= λ s. left_rules loads s inside k b) ≡ whole → RulesLeft loads p inside k b whole
step_by loads p inside n k b whole (Ok s) h e = record { rules = s; are = h; leads = e }
step_by loads p inside n k b whole (Err c) h e = absurd h

-- one more line
pub rules_step : (loads : Loads) (p q : Partial) (inside stays : Bool) (n : ℕ) (t l b : List ℕ) (whole : Result AppRules (ℕ × RuleCause)) → Some (l, b) ≡ next_line t → stays ≡ stays_inside inside (fields l)
    → ((a : AppRules) → ArePart a p → ArePartRead (rules_with loads inside (n, l) a) q) → RulesLeft loads p inside n t whole → RulesLeft loads q stays (n + 1) b whole
rules_step loads p q inside stays n t l b whole e i added h =
    subst (λ (s : Bool). RulesLeft loads q s (n + 1) b whole) (sym i) (
    step_by loads q (stays_inside inside (fields l)) n (n + 1) b whole (rules_with loads inside (n, l) h.rules) (added h.rules h.are) (sym (line_step loads h.rules inside n t l b e) ∙ h.leads))

refuse_by : (n : ℕ) (e : Fault) (x : Result AppRules RuleCause) (k : AppRules → Result AppRules (ℕ × RuleCause)) → Faulty x e → RefusesRules (err_as (λ c. (n, c)) x >>= k) (refusal_at n e)
refuse_by n (fault.Cause c) x k h = ap (λ r. err_as (λ c. (n, c)) r >>= k) h
refuse_by n fault.NoMemory x k h = tt

pub same_refused : (r s : Result AppRules (ℕ × RuleCause)) (e : RuleRefusal) → r ≡ s → RefusesRules s e → RefusesRules r e
same_refused r s (refusal.At n c) e h = e ∙ h
same_refused r s refusal.NoMemory e h = tt

-- a line that is refused refuses all
pub rules_refuse : (loads : Loads) (p : Partial) (inside : Bool) (n : ℕ) (t l b : List ℕ) (whole : Result AppRules (ℕ × RuleCause)) (e : Fault) → Some (l, b) ≡ next_line t
    → ((a : AppRules) → ArePart a p → Faulty (rules_with loads inside (n, l) a) e) → RulesLeft loads p inside n t whole → RefusesRules whole (refusal_at n e)
rules_refuse loads p inside n t l b whole e i refused h =
    same_refused whole (err_as (λ c. (n, c)) (rules_with loads inside (n, l) h.rules) >>= λ s. left_rules loads s (stays_inside inside (fields l)) (n + 1) b) (refusal_at n e)
    (sym h.leads ∙ line_step loads h.rules inside n t l b i)
    (refuse_by n e (rules_with loads inside (n, l) h.rules) (λ s. left_rules loads s (stays_inside inside (fields l)) (n + 1) b) (refused h.rules h.are))

-- no line is left
pub rules_done : (loads : Loads) (p : Partial) (inside : Bool) (n : ℕ) (t : List ℕ) (whole : Result AppRules (ℕ × RuleCause)) → None ≡ next_line t → RulesLeft loads p inside n t whole → ArePartRead whole p
rules_done loads p inside n t whole e h = subst (λ (x : Result AppRules (ℕ × RuleCause)). ArePartRead x p) (sym (no_line loads h.rules inside n t e) ∙ h.leads) h.are

-- ---- all rules

-- the rules of a deck's text, by its lines
whole_is : (t : List ℕ) (d : List (ℕ × DeckLine)) (a : AppRules) → deck_read t ≡ Ok d → lines_read t d ≡ Ok a → is_some a.target ≡ true → app_rules_read t ≡ Ok a
unfolding app_rules_read
whole_is t d a e h s =
    ap (λ x. err_as (λ e. (e.0, Deck e.1)) x >>= λ ls. lines_read t ls >>= with_some_app) e ∙ ap (λ x. x >>= with_some_app) h ∙ ap (λ b. only_if b (0, NoApplication) a) s

-- the rules of a text with the name of their application, as the code has them
abbrev pub AreRead : List ℕ → Rules → List ℕ → Type 0
AreRead t r aid = (a : AppRules) × (g : Target) × (app_rules_read t ≡ Ok a) × AreRules a g r × AreSums a r × (g.name ≡ aid)

read_by : (t : List ℕ) (d : List (ℕ × DeckLine)) (p : Partial) (aid : List ℕ) (r : Rules) (x : Result AppRules (ℕ × RuleCause)) → deck_read t ≡ Ok d → lines_read t d ≡ x → ArePartRead x p → p.load ≡ Some (record { aid = aid; load = r.load })
    → r.allowances.items ≡ p.allowances.items → r.sums.items ≡ p.sums.items → r.ons.items ≡ p.ons.items → r.always.items ≡ p.always.items → r.balances.items ≡ p.balances.items → r.never ≡ p.never
    → AreRead t r aid
read_by t d p aid r (Err e) deck lines h i f2 f7 f3 f4 f5 f6 = absurd h
read_by t d p aid r (Ok a) deck lines h i f2 f7 f3 f4 f5 f6 =
    let target = target_is a.target p.load (record { aid = aid; load = r.load }) h.target i in (
      a,
      target.0,
      whole_is t d a deck lines (ap is_some target.1),
      record {
        target = target.1;
        created = target.2;
        allowances = h.allowances ∙ ap (map allowance_of) (sym f2);
        distinct = subst (λ (ns : List Named). AreDistinct (map name_of ns)) (sym f2) h.distinct;
        ons = subst (λ (ns : List Named). AreLines (map name_of ns) a.ons r.ons.items) (sym f2) (subst (λ (os : List On). AreLines (map name_of p.allowances.items) a.ons os) (sym f3) h.ons);
        abends = h.abends ∙ sym f6;
        ranges = h.ranges ∙ ap (map range_of) (sym f4);
        totals = (let k = totals_count (map name_of p.sums.items) a.totals p.balances.items h.totals in let m = ap length f5 in let n = r.balances.ok.0 in omega (arith, k, n, m));
      },
      record {
        sums = h.sums ∙ ap (map allowance_of) (sym f7);
        lines = subst (λ (ns : List Named). AreSumLines (map name_of ns) a.moves r.ons.items) (sym f7) (subst (λ (os : List On). AreSumLines (map name_of p.sums.items) a.moves os) (sym f3) h.moves);
        totals = subst (λ (ns : List Named). AreTotals (map name_of ns) a.totals r.balances.items) (sym f7) (subst (λ (bs : List Balance). AreTotals (map name_of p.sums.items) a.totals bs) (sym f5) h.totals);
      },
      target.3,
    )

-- the rules of a deck's text
pub rules_finished : (t : List ℕ) (d : List (ℕ × DeckLine)) (p : Partial) (x : Result (Rules × List ℕ) RuleRefusal) → deck_read t ≡ Ok d → ArePartRead (lines_read t d) p → IfOk x (λ y. IsFinished p y.0 y.1)
    → IfOk x (λ y. AreRead t y.0 y.1)
rules_finished t d p (Ok (r, aid)) deck h f =
    read_by t d p aid r (lines_read t d) deck refl h f.load (ap (λ v. v.items) f.allowances) (ap (λ v. v.items) f.sums) (ap (λ v. v.items) f.ons) (ap (λ v. v.items) f.always) (ap (λ v. v.items) f.balances) f.never
rules_finished t d p (Err e) deck h f = tt

-- ---- refused decks

from_lines : (t : List ℕ) (d : List (ℕ × DeckLine)) → deck_read t ≡ Ok d → app_rules_read t ≡ (lines_read t d >>= with_some_app)
unfolding app_rules_read
from_lines t d e = ap (λ x. err_as (λ e. (e.0, Deck e.1)) x >>= λ ls. lines_read t ls >>= with_some_app) e

refused_by : (x : Result AppRules (ℕ × RuleCause)) (e : RuleRefusal) → RefusesRules x e → RefusesRules (x >>= with_some_app) e
refused_by x (refusal.At n c) h = ap (λ r. r >>= with_some_app) h
refused_by x refusal.NoMemory h = tt

-- a line of the rules is refused
pub lines_refuse : (t : List ℕ) (d : List (ℕ × DeckLine)) (e : RuleRefusal) → deck_read t ≡ Ok d → RefusesRules (lines_read t d) e → RefusesRules (app_rules_read t) e
lines_refuse t d e deck h = same_refused (app_rules_read t) (lines_read t d >>= with_some_app) e (from_lines t d deck) (refused_by (lines_read t d) e h)

unnamed_by : (x : Result AppRules (ℕ × RuleCause)) (p : Partial) → ArePartRead x p → p.load ≡ None → (x >>= with_some_app) ≡ Err (0, NoApplication)
unnamed_by (Err e) p h l = absurd h
unnamed_by (Ok a) p h l = ap (λ b. only_if b (0, NoApplication) a) (no_target a.target p.load h.target l)

-- no line names an application
pub none_named : (t : List ℕ) (d : List (ℕ × DeckLine)) (p : Partial) (e : RuleRefusal) → deck_read t ≡ Ok d → ArePartRead (lines_read t d) p → p.load ≡ None → e ≡ refusal.At 0 cause.NoApplication → RefusesRules (app_rules_read t) e
none_named t d p e deck h l i = subst (RefusesRules (app_rules_read t)) (sym i) (from_lines t d deck ∙ unnamed_by (lines_read t d) p h l)

pub unfinished : (t : List ℕ) (d : List (ℕ × DeckLine)) (p : Partial) (x : Result (Rules × List ℕ) RuleRefusal) → deck_read t ≡ Ok d → ArePartRead (lines_read t d) p → IfErr x (λ e. (e ≡ refusal.At 0 cause.NoApplication) × (p.load ≡ None))
    → IfErr x (RefusesRules (app_rules_read t))
unfinished t d p (Ok r) deck h f = tt
unfinished t d p (Err e) deck h f = none_named t d p e deck h f.1 f.0
