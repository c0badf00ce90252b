-- `on` lines by their parts.
use Rattle.std.proofs.Common.{arith, ◌≡◌, ℕ, List, [], ◌∷◌, ◌++◌, Bool, true, false, not, cond, length, map, Option, Some, None, Ok, Err, Result, refl, sym, ap, subst, ◌∙◌}
use Rattle.std.specs.Prelude.{◌==◌, bytes_eq, codes, is_none, is_some, ok_or}
use Rattle.mc_words.specs.model_device.specs.Bytes.{lookup}
use Rattle.mc_text.specs.model_text.specs.Text.{◌>>=◌, fields, is_empty, only_if}
use Rattle.model_rule_text.specs.model_play.specs.declared.deck.DeckCause.{DeckCause}
use Rattle.model_rule_text.specs.model_play.specs.declared.deck.DeckCause.TheVariants.{BadLine, UnknownName}
use Rattle.model_rule_text.specs.model_play.specs.DeckGrammar.{name_field}
use Rattle.model_rule_text.specs.model_play.specs.RuleLines.{full_parts, name_and_amount, parts_at, parts_of, Parts}
use Rattle.prove_facts.specs.model_rules.specs.Rules as rules
use Rattle.prove_facts.specs.model_rules.specs.Rules.{AppRules, AtAnswer, AtCommand, AtSession, AtTurn, OnLine, SumLine, Target, Trigger}
use Rattle.model_rule_text.specs.Reading as reading
use Rattle.model_rule_text.specs.Reading.{AmountForm, AmountRead, Deck, EventWord, NoApplication, OnAllowance, OnSum, RuleCause, action_words, amount_of_read, amount_read, bare_parts, event_words, form_of_amount, gives_words, has_no_bracket, of_deck, on_line, rule_name, turn_words, unless, with_app, with_deed, with_event_line, with_move_at, with_on}
use Rattle.lab_app_rules.specs.declared.rules.Effect.{Effect}
use Rattle.lab_app_rules.specs.declared.rules.Event.{Event}
use Rattle.lab_app_rules.specs.declared.rules.Event.TheVariants as event
use Rattle.lab_app_rules.specs.declared.rules.Amount.{Amount}
use Rattle.lab_app_rules.specs.declared.rules.Named.{Named}
use Rattle.lab_app_rules.specs.declared.rules.On.{On}
use Rattle.lab_app_rules.specs.Rules.{allowance_of, deed_of, name_of, IsCreated, IsTrigger}
use Rattle.prove_rules.specs.declared.load.Found.{Found}
use Rattle.prove_rules.specs.declared.on.Head.{Head}
use Rattle.prove_rules.specs.declared.partial.Partial.{Partial}
use Rattle.prove_rules.specs.declared.parts.Deeds.{Deeds}
use Rattle.prove_rules.specs.declared.parts.Deeds.TheVariants as deeds
use Rattle.prove_rules.specs.declared.fault.Fault.{Fault}
use Rattle.prove_rules.specs.declared.fault.Fault.TheVariants as fault
use Rattle.prove_rules.specs.declared.fault.RuleCause.TheVariants as cause
use Rattle.prove_rules.specs.declared.public.AmountForm.{AmountForm as CodeForm}
use Rattle.prove_rules.specs.declared.public.AmountRead.{AmountRead as CodeRead}
use Rattle.lab_app_rules.specs.Sums.{amount_value}
use Rattle.prove_rules.specs.Fields.{form_value, two_of, IsAmountRead, IsReadOf}
use Rattle.prove_rules.specs.Ons.{result_parts, HasResult, HasWord, IsAllowanceEffect, IsEffect, IsHead, IsOnRead, IsSumEffect, IsTimely, IsTriggerOf, MoreLines}
use Rattle.prove_rules.specs.Parts.{action_value, deeds_value, event_value, HasNoParts, HasParts}
use Rattle.prove_rules.specs.Partials.{place_of, ArePart, AreListsRead, IsTarget}
use Rattle.prove_rules.specs.Refused.{cause_value, Faulty}
use Rattle.prove_rules.proofs.FieldLemmas.{zero_of}
use Rattle.prove_rules.proofs.PlaceLemmas.{lines_allowance, lines_sum, place_get, place_none, place_some}
use Rattle.prove_rules.proofs.RefusalLemmas.{deck_faulty, same_faulty, then_faulty}
use Rattle.prove_rules.proofs.SumLemmas.{sum_lines_more, sum_lines_still}

none_some : {A : Type 0} (o : Option A) → is_none o ≡ true → is_some o ≡ false
none_some None e = refl
none_some (Some a) e = absurd (cc e)

-- ---- words that are actions

-- the word of parts, and what follows it
abbrev word_in : {W : Type 0} → W → Option (Parts W) → W
word_in w None = w
word_in w (Some p) = p.1

abbrev rest_in : {W : Type 0} → List (List ℕ) → Option (Parts W) → List (List ℕ)
rest_in fs None = fs
rest_in fs (Some p) = p.2

word_by : (b c d : Bool) (f : List ℕ) (fs : List (List ℕ)) (q : Option (Parts reading.Deeds)) (front : List ℕ) (adds : Bool) (rest : List (List ℕ))
    → parts_at (cond b (Some (OnAllowance rules.Allows)) (cond c (Some (OnAllowance rules.Spends)) (cond d (Some (OnAllowance rules.Needs)) None))) f fs q ≡ Some (front, OnSum adds, rest) → (g : List ℕ) × (q ≡ Some (g, OnSum adds, rest))
word_by true c d f fs q front adds rest e = let no = ap (word_in (OnAllowance rules.Allows)) e in absurd (cc no)
word_by false true d f fs q front adds rest e = let no = ap (word_in (OnAllowance rules.Spends)) e in absurd (cc no)
word_by false false true f fs q front adds rest e = let no = ap (word_in (OnAllowance rules.Needs)) e in absurd (cc no)
word_by false false false f fs None front adds rest e = absurd (cc e)
word_by false false false f fs (Some (g, w, more)) front adds rest e =
    let word : w ≡ OnSum adds = ap (word_in w) e in
    let after : more ≡ rest = ap (rest_in more) e in
    (g, ap (λ v. Some (g, v, more)) word ∙ ap (λ t. Some (g, OnSum adds, t)) after)

-- no word of an action is about a sum
no_sums : (fs : List (List ℕ)) (front : List ℕ) (adds : Bool) (rest : List (List ℕ)) → parts_of action_words fs ≡ Some (front, OnSum adds, rest) → ⊥
no_sums [] front adds rest e = absurd (cc e)
no_sums (f ∷ fs) front adds rest e =
    let h = word_by (bytes_eq (codes "allow") f) (bytes_eq (codes "spend") f) (bytes_eq (codes "need") f) f fs (parts_of action_words fs) front adds rest e in
    no_sums fs h.0 adds rest h.1

-- an action may follow any event
action_timely : (t : Trigger) (d : Deeds) (fs : List (List ℕ)) (front : List ℕ) (rest : List (List ℕ)) → parts_of action_words fs ≡ Some (front, deeds_value d, rest) → IsTimely t d
action_timely t (deeds.OnAllowance a) fs front rest e = tt
action_timely t (deeds.OnSum adds) fs front rest e = absurd (no_sums fs front adds rest e)

-- all words may follow a turn
turn_timely : (p : List ℕ) (d : Deeds) → IsTimely (AtTurn p) d
turn_timely p (deeds.OnAllowance a) = tt
turn_timely p (deeds.OnSum adds) = (p, refl)

-- ---- heads

full_is : {W : Type 0} (o : Option (Parts W)) (front : List ℕ) (w : W) (rest : List (List ℕ)) → o ≡ Some (front, w, rest) → is_empty front ≡ false → of_deck (full_parts o) ≡ Ok (front, w, rest)
full_is o front w rest e h = ap (λ o. of_deck (full_parts o)) e ∙ ap (λ b. of_deck (only_if (not b) BadLine (front, w, rest))) h

bare_is : {W : Type 0} (o : Option (Parts W)) (front : List ℕ) (w : W) (rest : List (List ℕ)) → o ≡ Some (front, w, rest) → is_empty front ≡ true → of_deck (bare_parts o) ≡ Ok (front, w, rest)
bare_is o front w rest e h = ap (λ o. of_deck (bare_parts o)) e ∙ ap (λ b. of_deck (only_if b BadLine (front, w, rest))) h

pub head_turn : (fs : List (List ℕ)) (h : Head) → HasWord true fs h → is_empty h.pattern.items ≡ false → IsHead event.Turn fs h
head_turn fs h w s = record {
  trigger = AtTurn w.front;
  is = (refl, w.pattern);
  timely = turn_timely w.front h.deeds;
  leads = λ a n. ap (λ r. r >>= λ p. with_deed a n (AtTurn p.0) p.1 p.2) (full_is (parts_of turn_words fs) w.front (deeds_value h.deeds) (fields h.after.now) w.is (w.empty ∙ s));
}

pub head_command : (fs : List (List ℕ)) (h : Head) → HasWord false fs h → is_empty h.pattern.items ≡ false → IsHead event.Command fs h
head_command fs h w s = record {
  trigger = AtCommand w.front;
  is = (refl, w.pattern);
  timely = action_timely (AtCommand w.front) h.deeds fs w.front (fields h.after.now) w.is;
  leads = λ a n. ap (λ r. r >>= λ p. with_deed a n (AtCommand p.0) p.1 p.2) (full_is (parts_of action_words fs) w.front (deeds_value h.deeds) (fields h.after.now) w.is (w.empty ∙ s));
}

pub head_session : (fs : List (List ℕ)) (h : Head) → HasWord false fs h → is_empty h.pattern.items ≡ true → IsHead event.Session fs h
head_session fs h w s = grind (arith, action_timely, bare_is)

pub head_answer : (fs : List (List ℕ)) (h : Head) → HasResult fs h → IsHead event.Answer fs h
head_answer fs h w = record {
  trigger = AtAnswer w.first.front w.second.front;
  is = (refl, w.first.pattern, w.second.pattern);
  timely = action_timely (AtAnswer w.first.front w.second.front) h.deeds (fields w.mid) w.second.front (fields h.after.now) w.second.is;
  leads = grind (arith, full_is);
}

-- ---- refused heads

-- whether a pattern is empty, as the code asks it
pub no_items : (t : List ℕ) → (length t == 0) ≡ true → is_empty t ≡ true
no_items [] e = refl
no_items (c ∷ t) e = absurd (cc (zero_of (length (c ∷ t)) e))

pub some_items : (t : List ℕ) → (length t == 0) ≡ false → is_empty t ≡ false
some_items [] e = absurd (cc e)
some_items (c ∷ t) e = refl

-- a line without a word
pub full_none : {W : Type 0} (o : Option (Parts W)) (e : Fault) → HasNoParts o e → Faulty (of_deck (full_parts o)) e
full_none o (fault.Cause c) h = ap (λ o. of_deck (full_parts o)) h.1 ∙ ap (λ c. Err (cause_value c)) (sym h.0)
full_none o fault.NoMemory h = tt

pub bare_none : {W : Type 0} (o : Option (Parts W)) (e : Fault) → HasNoParts o e → Faulty (of_deck (bare_parts o)) e
bare_none o (fault.Cause c) h = ap (λ o. of_deck (bare_parts o)) h.1 ∙ ap (λ c. Err (cause_value c)) (sym h.0)
bare_none o fault.NoMemory h = tt

-- a line without a pattern, or with one where none may be
pub full_empty : {W : Type 0} (o : Option (Parts W)) (t : List ℕ) (w : W) (rest : List ℕ) → HasParts o t w rest → is_empty t ≡ true → of_deck (full_parts o) ≡ Err (Deck BadLine)
full_empty o t w rest h e = ap (λ o. of_deck (full_parts o)) h.is ∙ ap (λ b. of_deck (only_if (not b) BadLine (h.front, w, fields rest))) (h.empty ∙ e)

pub bare_some : {W : Type 0} (o : Option (Parts W)) (t : List ℕ) (w : W) (rest : List ℕ) → HasParts o t w rest → is_empty t ≡ false → of_deck (bare_parts o) ≡ Err (Deck BadLine)
bare_some o t w rest h e = ap (λ o. of_deck (bare_parts o)) h.is ∙ ap (λ b. of_deck (only_if b BadLine (h.front, w, fields rest))) (h.empty ∙ e)

-- the parts after a result's word
pub result_after : (fs : List (List ℕ)) (t mid : List ℕ) → HasParts (parts_of gives_words fs) t true mid → is_empty t ≡ false → result_parts fs ≡ of_deck (full_parts (parts_of action_words (fields mid)))
result_after fs t mid h e = ap (λ r. r >>= λ a. of_deck (full_parts (parts_of action_words a.2))) (full_is (parts_of gives_words fs) h.front true (fields mid) h.is (h.empty ∙ e))

-- a refused step before another
answer_by : {A B C : Type 0} (x : Result A RuleCause) (f : A → Result B RuleCause) (k : A → B → Result C RuleCause) (e : Fault) → Faulty (x >>= f) e → Faulty (x >>= λ a. f a >>= k a) e
answer_by x f k e h = grind (arith, then_faulty)

-- the fault of a line's head
abbrev pub EventFault : EventWord → List (List ℕ) → Fault → Type 0
EventFault w fs e = (a : AppRules) (n : ℕ) → Faulty (with_event_line a n w fs) e

pub full_bad : {W : Type 0} (o : Option (Parts W)) (t : List ℕ) (w : W) (rest : List ℕ) (e : Fault) → HasParts o t w rest → is_empty t ≡ true → e ≡ fault.Cause (cause.Deck BadLine) → Faulty (of_deck (full_parts o)) e
full_bad o t w rest e h i bad = deck_faulty (of_deck (full_parts o)) e BadLine bad (full_empty o t w rest h i)

pub bare_bad : {W : Type 0} (o : Option (Parts W)) (t : List ℕ) (w : W) (rest : List ℕ) (e : Fault) → HasParts o t w rest → is_empty t ≡ false → e ≡ fault.Cause (cause.Deck BadLine) → Faulty (of_deck (bare_parts o)) e
bare_bad o t w rest e h i bad = deck_faulty (of_deck (bare_parts o)) e BadLine bad (bare_some o t w rest h i)

-- a line of an answer without `gives`, or without a pattern before it
pub answer_none : (fs : List (List ℕ)) (e : Fault) → HasNoParts (parts_of gives_words fs) e → Faulty (result_parts fs) e
answer_none fs e h = then_faulty (of_deck (full_parts (parts_of gives_words fs))) (λ a. of_deck (full_parts (parts_of action_words a.2))) e (full_none (parts_of gives_words fs) e h)

pub answer_empty : (fs : List (List ℕ)) (t mid : List ℕ) (e : Fault) → HasParts (parts_of gives_words fs) t true mid → is_empty t ≡ true → e ≡ fault.Cause (cause.Deck BadLine) → Faulty (result_parts fs) e
answer_empty fs t mid e h i bad = then_faulty (of_deck (full_parts (parts_of gives_words fs))) (λ a. of_deck (full_parts (parts_of action_words a.2))) e (full_bad (parts_of gives_words fs) t true mid e h i bad)

-- without a word after it, or without a pattern of the result
pub result_none : (fs : List (List ℕ)) (t mid : List ℕ) (e : Fault) → HasParts (parts_of gives_words fs) t true mid → is_empty t ≡ false → HasNoParts (parts_of action_words (fields mid)) e → Faulty (result_parts fs) e
result_none fs t mid e h i none = same_faulty (result_parts fs) (of_deck (full_parts (parts_of action_words (fields mid)))) e (result_after fs t mid h i) (full_none (parts_of action_words (fields mid)) e none)

pub result_empty : (fs : List (List ℕ)) (t mid u : List ℕ) (w : reading.Deeds) (rest : List ℕ) (e : Fault) → HasParts (parts_of gives_words fs) t true mid → is_empty t ≡ false → HasParts (parts_of action_words (fields mid)) u w rest
    → is_empty u ≡ true → e ≡ fault.Cause (cause.Deck BadLine) → Faulty (result_parts fs) e
result_empty fs t mid u w rest e h i k j bad = same_faulty (result_parts fs) (of_deck (full_parts (parts_of action_words (fields mid)))) e (result_after fs t mid h i) (full_bad (parts_of action_words (fields mid)) u w rest e k j bad)

pub turn_refused : (a : AppRules) (n : ℕ) (fs : List (List ℕ)) (e : Fault) → Faulty (of_deck (full_parts (parts_of turn_words fs))) e → Faulty (with_event_line a n reading.TurnEvent fs) e
turn_refused a n fs e h = then_faulty (of_deck (full_parts (parts_of turn_words fs))) (λ p. with_deed a n (AtTurn p.0) p.1 p.2) e h

pub command_refused : (a : AppRules) (n : ℕ) (fs : List (List ℕ)) (e : Fault) → Faulty (of_deck (full_parts (parts_of action_words fs))) e → Faulty (with_event_line a n reading.CommandEvent fs) e
command_refused a n fs e h = then_faulty (of_deck (full_parts (parts_of action_words fs))) (λ p. with_deed a n (AtCommand p.0) p.1 p.2) e h

pub session_refused : (a : AppRules) (n : ℕ) (fs : List (List ℕ)) (e : Fault) → Faulty (of_deck (bare_parts (parts_of action_words fs))) e → Faulty (with_event_line a n reading.SessionEvent fs) e
session_refused a n fs e h = then_faulty (of_deck (bare_parts (parts_of action_words fs))) (λ p. with_deed a n AtSession p.1 p.2) e h

pub answer_refused : (a : AppRules) (n : ℕ) (fs : List (List ℕ)) (e : Fault) → Faulty (result_parts fs) e → Faulty (with_event_line a n reading.AnswerEvent fs) e
answer_refused a n fs e h =
    answer_by (of_deck (full_parts (parts_of gives_words fs))) (λ a. of_deck (full_parts (parts_of action_words a.2))) (λ x p. with_deed a n (AtAnswer x.0 p.0) p.1 p.2) e h

-- ---- lines

-- the application that the lines above name
pub target_is : (o : Option Target) (l : Option Found) (found : Found) → IsTarget o l → l ≡ Some found → (g : Target) × (o ≡ Some g) × IsCreated g.app found.load × (g.name ≡ found.aid)
target_is o l found h e = grind arith

pub is_target : (o : Option Target) (l : Option Found) (found : Found) → IsTarget o l → l ≡ Some found → is_some o ≡ true
is_target o l found h e = let t = target_is o l found h e in ap is_some t.1

trigger_is : (t : Trigger) (on : On) → IsTriggerOf t on.event on.pattern.items on.result.items → IsTrigger t on
trigger_is t on h = grind arith

-- a line about an allowance
abbrev allowance_line : ℕ → Trigger → rules.Action → List ℕ × ℕ → OnLine
allowance_line n t act x = record { number = n; trigger = t; action = act; name = x.0; amount = x.1 }

-- a line about an allowance, by whether there is an application
abbrev on_by : AppRules → ℕ → Trigger → rules.Action → List ℕ × ℕ → Bool → Result AppRules RuleCause
on_by a n t act x target =
    only_if target NoApplication a >>= λ r. unless (is_some (lookup r.allowances x.0)) UnknownName (record r { ons = r.ons ++ allowance_line n t act x ∷ [] })

pub allowance_read : (a : AppRules) (p : Partial) (n : ℕ) (t : Trigger) (act : rules.Action) (fs : List (List ℕ)) (effect : Effect) (place : ℕ) → ArePart a p → (h : IsAllowanceEffect p fs act effect place)
    → with_deed a n t (OnAllowance act) fs ≡ Ok (record a { ons = a.ons ++ allowance_line n t act (h.name, h.amount) ∷ [] })
allowance_read a p n t act fs effect place are h = grind (arith, place_some, is_target)

-- a line about a sum
abbrev sum_line : ℕ → List ℕ → Bool → List ℕ → rules.Amount → SumLine
sum_line n pattern adds name k = record { number = n; line = pattern; adds = adds; name = name; amount = k }

abbrev sum_by : AppRules → ℕ → List ℕ → Bool → List ℕ → Result rules.Amount RuleCause → Bool → Result AppRules RuleCause
sum_by a n pattern adds name amount target =
    only_if target NoApplication a >>= λ r. unless (is_some (lookup r.sums name)) UnknownName r >>= λ r. amount >>= λ k. Ok (record r { moves = r.moves ++ sum_line n pattern adds name k ∷ [] })

abbrev sum_in : AppRules → ℕ → List ℕ → Bool → List ℕ → Result rules.Amount RuleCause → Bool → Result AppRules RuleCause
sum_in a n pattern adds name amount there =
    unless there UnknownName a >>= λ r. amount >>= λ k. Ok (record r { moves = r.moves ++ sum_line n pattern adds name k ∷ [] })

abbrev sum_from : AppRules → ℕ → List ℕ → Bool → List ℕ → Result AmountForm RuleCause → Result (List ℕ) DeckCause → Result AppRules RuleCause
sum_from a n pattern adds name form named =
    form >>= λ form. of_deck named >>= λ name. amount_read form >>= λ read. with_move_at a n (AtTurn pattern) adds name read

-- the line of a sum, by its two fields
two_fields : (a : AppRules) (n : ℕ) (pattern : List ℕ) (adds : Bool) (fs : List (List ℕ)) (name text : List ℕ) → fs ≡ name ∷ text ∷ []
    → with_deed a n (AtTurn pattern) (OnSum adds) fs ≡ sum_from a n pattern adds name (form_of_amount (has_no_bracket text) text) (name_field name)
two_fields a n pattern adds fs name text e = ap (with_deed a n (AtTurn pattern) (OnSum adds)) e

formed : (a : AppRules) (n : ℕ) (pattern : List ℕ) (adds : Bool) (fs : List (List ℕ)) (name text : List ℕ) (form : AmountForm) → fs ≡ name ∷ text ∷ [] → form_of_amount (has_no_bracket text) text ≡ Ok form
    → with_deed a n (AtTurn pattern) (OnSum adds) fs ≡ sum_from a n pattern adds name (Ok form) (name_field name)
formed a n pattern adds fs name text form e h = two_fields a n pattern adds fs name text e ∙ ap (λ f. sum_from a n pattern adds name f (name_field name)) h

named : (a : AppRules) (n : ℕ) (pattern : List ℕ) (adds : Bool) (fs : List (List ℕ)) (name text : List ℕ) (form : AmountForm) → fs ≡ name ∷ text ∷ [] → form_of_amount (has_no_bracket text) text ≡ Ok form → name_field name ≡ Ok name
    → with_deed a n (AtTurn pattern) (OnSum adds) fs ≡ (amount_read form >>= λ read. with_move_at a n (AtTurn pattern) adds name read)
named a n pattern adds fs name text form e h i = formed a n pattern adds fs name text form e h ∙ ap (λ m. sum_from a n pattern adds name (Ok form) m) i

-- the fields of a sum's line, all but its amount's range
pub record IsSumLine (fs : List (List ℕ)) (name : List ℕ) (read : AmountRead) : Type 0 where
  pub text : List ℕ
  pub form : AmountForm
  pub parts : fs ≡ name ∷ text ∷ []
  pub formed : form_of_amount (has_no_bracket text) text ≡ Ok form
  pub named : name_field name ≡ Ok name
  pub reads : amount_read form ≡ Ok read

line_is : (a : AppRules) (n : ℕ) (pattern : List ℕ) (adds : Bool) (fs : List (List ℕ)) (name : List ℕ) (read : AmountRead) → IsSumLine fs name read
    → with_deed a n (AtTurn pattern) (OnSum adds) fs ≡ sum_by a n pattern adds name (amount_of_read read) (is_some a.target)
line_is a n pattern adds fs name read h =
    named a n pattern adds fs name h.text h.form h.parts h.formed h.named ∙ ap (λ r. r >>= λ read. with_move_at a n (AtTurn pattern) adds name read) h.reads

held_sum : (a : AppRules) (p : Partial) (name : List ℕ) (place : ℕ) → ArePart a p → place_of (map allowance_of p.sums.items) name ≡ Some place → is_some (lookup a.sums name) ≡ true
held_sum a p name place are h = ap (λ l. is_some (lookup l name)) are.sums ∙ place_some (map allowance_of p.sums.items) name place h

pub sum_read : (a : AppRules) (p : Partial) (n : ℕ) (pattern : List ℕ) (adds : Bool) (fs : List (List ℕ)) (effect : Effect) (place : ℕ) → ArePart a p → (h : IsSumEffect p fs adds effect place)
    → with_deed a n (AtTurn pattern) (OnSum adds) fs ≡ Ok (record a { moves = a.moves ++ sum_line n pattern adds h.name (amount_value h.value) ∷ [] })
sum_read a p n pattern adds fs effect place are h =
    line_is a n pattern adds fs h.name h.read (record { text = h.text; form = h.form; parts = h.parts; formed = h.formed; named = h.named; reads = h.reads })
    ∙ ap (sum_by a n pattern adds h.name (amount_of_read h.read)) (is_target a.target p.load h.found are.target h.loaded)
    ∙ ap (sum_in a n pattern adds h.name (amount_of_read h.read)) (held_sum a p h.name place are h.place)
    ∙ ap (λ m. sum_in a n pattern adds h.name m true) h.is

-- ---- refused effects

-- no application is named
pub no_target : (o : Option Target) (l : Option Found) → IsTarget o l → l ≡ None → is_some o ≡ false
no_target o l h e = grind arith

-- a name without a place is not there
pub not_held : (list : List (List ℕ × ℕ)) (held : List Named) (name : List ℕ) → list ≡ map allowance_of held → None ≡ place_of (map allowance_of held) name → is_some (lookup list name) ≡ false
not_held list held name e h = ap (λ l. is_some (lookup l name)) e ∙ none_some (lookup (map allowance_of held) name) (place_none (map allowance_of held) name (sym h))

-- a line about an allowance is refused for its fields, for want of an application, or for its name
pub pair_refused : (a : AppRules) (n : ℕ) (t : Trigger) (act : rules.Action) (fs : List (List ℕ)) (c : DeckCause) → name_and_amount fs ≡ Err c → with_deed a n t (OnAllowance act) fs ≡ Err (Deck c)
pair_refused a n t act fs c h = ap (λ r. of_deck r >>= λ x. with_on a n t act x.0 x.1) h

pub no_application : (a : AppRules) (p : Partial) (n : ℕ) (t : Trigger) (act : rules.Action) (fs : List (List ℕ)) (name : List ℕ) (k : ℕ) → ArePart a p → name_and_amount fs ≡ Ok (name, k) → p.load ≡ None
    → with_deed a n t (OnAllowance act) fs ≡ Err NoApplication
no_application a p n t act fs name k are h l =
    ap (λ r. of_deck r >>= λ x. with_on a n t act x.0 x.1) h ∙ ap (on_by a n t act (name, k)) (no_target a.target p.load are.target l)

pub no_allowance : (a : AppRules) (p : Partial) (n : ℕ) (t : Trigger) (act : rules.Action) (fs : List (List ℕ)) (name : List ℕ) (k : ℕ) (found : Found) → ArePart a p → name_and_amount fs ≡ Ok (name, k) → p.load ≡ Some found
    → None ≡ place_of (map allowance_of p.allowances.items) name → with_deed a n t (OnAllowance act) fs ≡ Err (Deck UnknownName)
no_allowance a p n t act fs name k found are h l none = grind (arith, is_target, not_held)

-- a line about a sum is refused for its fields, its form, its name or its numbers
pub no_two_fields : (a : AppRules) (n : ℕ) (pattern : List ℕ) (adds : Bool) (fs : List (List ℕ)) → two_of fs ≡ None → with_deed a n (AtTurn pattern) (OnSum adds) fs ≡ Err (Deck BadLine)
no_two_fields a n pattern adds fs h = grind arith

pub form_refused : (a : AppRules) (n : ℕ) (pattern : List ℕ) (adds : Bool) (fs : List (List ℕ)) (name text : List ℕ) (c : DeckCause) → fs ≡ name ∷ text ∷ [] → form_of_amount (has_no_bracket text) text ≡ Err (Deck c)
    → with_deed a n (AtTurn pattern) (OnSum adds) fs ≡ Err (Deck c)
form_refused a n pattern adds fs name text c e h = two_fields a n pattern adds fs name text e ∙ ap (λ f. sum_from a n pattern adds name f (name_field name)) h

pub name_refused : (a : AppRules) (n : ℕ) (pattern : List ℕ) (adds : Bool) (fs : List (List ℕ)) (name text : List ℕ) (form : AmountForm) (c : DeckCause) → fs ≡ name ∷ text ∷ [] → form_of_amount (has_no_bracket text) text ≡ Ok form
    → name_field name ≡ Err c → with_deed a n (AtTurn pattern) (OnSum adds) fs ≡ Err (Deck c)
name_refused a n pattern adds fs name text form c e h i = formed a n pattern adds fs name text form e h ∙ ap (λ m. sum_from a n pattern adds name (Ok form) m) i

pub read_refused : (a : AppRules) (n : ℕ) (pattern : List ℕ) (adds : Bool) (fs : List (List ℕ)) (name text : List ℕ) (form : AmountForm) (c : DeckCause) → fs ≡ name ∷ text ∷ [] → form_of_amount (has_no_bracket text) text ≡ Ok form
    → name_field name ≡ Ok name → amount_read form ≡ Err (Deck c) → with_deed a n (AtTurn pattern) (OnSum adds) fs ≡ Err (Deck c)
read_refused a n pattern adds fs name text form c e h i j = named a n pattern adds fs name text form e h i ∙ ap (λ r. r >>= λ read. with_move_at a n (AtTurn pattern) adds name read) j

-- or for want of an application, for its sum, or for the range of its bytes
pub sum_unnamed : (a : AppRules) (p : Partial) (n : ℕ) (pattern : List ℕ) (adds : Bool) (fs : List (List ℕ)) (name : List ℕ) (read : AmountRead) → ArePart a p → IsSumLine fs name read → p.load ≡ None
    → with_deed a n (AtTurn pattern) (OnSum adds) fs ≡ Err NoApplication
sum_unnamed a p n pattern adds fs name read are h l =
    line_is a n pattern adds fs name read h ∙ ap (sum_by a n pattern adds name (amount_of_read read)) (no_target a.target p.load are.target l)

with_target : (a : AppRules) (p : Partial) (n : ℕ) (pattern : List ℕ) (adds : Bool) (fs : List (List ℕ)) (name : List ℕ) (read : AmountRead) (found : Found) → ArePart a p → IsSumLine fs name read → p.load ≡ Some found
    → with_deed a n (AtTurn pattern) (OnSum adds) fs ≡ sum_in a n pattern adds name (amount_of_read read) (is_some (lookup a.sums name))
with_target a p n pattern adds fs name read found are h l =
    line_is a n pattern adds fs name read h ∙ ap (sum_by a n pattern adds name (amount_of_read read)) (is_target a.target p.load found are.target l)

pub no_sum : (a : AppRules) (p : Partial) (n : ℕ) (pattern : List ℕ) (adds : Bool) (fs : List (List ℕ)) (name : List ℕ) (read : AmountRead) (found : Found) → ArePart a p → IsSumLine fs name read → p.load ≡ Some found
    → None ≡ place_of (map allowance_of p.sums.items) name → with_deed a n (AtTurn pattern) (OnSum adds) fs ≡ Err (Deck UnknownName)
no_sum a p n pattern adds fs name read found are h l none =
    with_target a p n pattern adds fs name read found are h l ∙ ap (sum_in a n pattern adds name (amount_of_read read)) (not_held a.sums p.sums.items name are.sums none)

pub amount_refused : (a : AppRules) (p : Partial) (n : ℕ) (pattern : List ℕ) (adds : Bool) (fs : List (List ℕ)) (name : List ℕ) (read : AmountRead) (found : Found) (place : ℕ) (c : DeckCause) → ArePart a p → IsSumLine fs name read
    → p.load ≡ Some found → place_of (map allowance_of p.sums.items) name ≡ Some place → amount_of_read read ≡ Err (Deck c) → with_deed a n (AtTurn pattern) (OnSum adds) fs ≡ Err (Deck c)
amount_refused a p n pattern adds fs name read found place c are h l held r =
    with_target a p n pattern adds fs name read found are h l
    ∙ ap (sum_in a n pattern adds name (amount_of_read read)) (held_sum a p name place are held)
    ∙ ap (λ m. sum_in a n pattern adds name m true) r

-- the faults of a line's effect
abbrev pub AllowanceFault : Partial → rules.Action → List (List ℕ) → Fault → Type 0
AllowanceFault p act fs e = (a : AppRules) (n : ℕ) (t : Trigger) → ArePart a p → Faulty (with_deed a n t (OnAllowance act) fs) e

abbrev pub SumFault : Partial → Bool → List (List ℕ) → Fault → Type 0
SumFault p adds fs e = (a : AppRules) (n : ℕ) (pattern : List ℕ) → ArePart a p → Faulty (with_deed a n (AtTurn pattern) (OnSum adds) fs) e

abbrev pub EffectFault : Partial → Deeds → List (List ℕ) → Fault → Type 0
EffectFault p d fs e = (a : AppRules) (n : ℕ) (t : Trigger) → ArePart a p → IsTimely t d → Faulty (with_deed a n t (deeds_value d) fs) e

-- a line about a sum is a turn's
pub sum_timely : (p : Partial) (adds : Bool) (fs : List (List ℕ)) (e : Fault) → SumFault p adds fs e → EffectFault p (deeds.OnSum adds) fs e
sum_timely p adds fs e h = λ a n t are timely. subst (λ (t : Trigger). Faulty (with_deed a n t (OnSum adds) fs) e) (sym timely.1) (h a n timely.0 are)

-- a field that is a name is this name
pub sum_value : (field name : List ℕ) → name_field field ≡ Ok name → name ≡ field → name_field field ≡ Ok field
sum_value field name h e = h ∙ ap (λ x. Ok x) e

read_of : (fs : List (List ℕ)) (name : List ℕ) (form : AmountForm) (text : List ℕ) (r : CodeRead) (x : Result AmountRead RuleCause) → fs ≡ name ∷ text ∷ [] → form_of_amount (has_no_bracket text) text ≡ Ok form → name_field name ≡ Ok name
    → amount_read form ≡ x → IsAmountRead x r → (m : AmountRead) × IsSumLine fs name m × IsReadOf m r
read_of fs name form text r (Err c) e h i j k = absurd k
read_of fs name form text r (Ok m) e h i j k = (m, record { text = text; form = form; parts = e; formed = h; named = i; reads = j }, k)

-- the line of a sum, by what the code has of it
pub sum_line_of : (fs : List (List ℕ)) (field name text : List ℕ) (form : CodeForm) (r : CodeRead) → fs ≡ field ∷ text ∷ [] → form_of_amount (has_no_bracket text) text ≡ Ok (form_value form) → name_field field ≡ Ok name → name ≡ field
    → IsAmountRead (amount_read (form_value form)) r → (m : AmountRead) × IsSumLine fs name m × IsReadOf m r
sum_line_of fs field name text form r e h i same k =
    read_of fs name (form_value form) text r (amount_read (form_value form)) (e ∙ ap (λ x. x ∷ text ∷ []) (sym same)) h (ap name_field same ∙ i) refl k

-- ---- lines that were read

-- a line that was read, by what it does
read_by : (a : AppRules) (p : Partial) (n : ℕ) (t : Trigger) (fs : List (List ℕ)) (d : Deeds) (on : On) → ArePart a p → n ≡ on.line → IsTriggerOf t on.event on.pattern.items on.result.items
    → IsTimely t d → IsEffect p fs d on.effect on.name → IsOnRead (map name_of p.allowances.items) (map name_of p.sums.items) a (with_deed a n t (deeds_value d) fs) on
read_by a p n t fs (deeds.OnAllowance act) on are i trigger timely h =
    let l = allowance_line n t (action_value act) (h.name, h.amount) in
    subst (λ (e : Option (rules.Action × ℕ)). MoreLines e (map name_of p.allowances.items) (map name_of p.sums.items) a (with_deed a n t (OnAllowance (action_value act)) fs) on) (sym h.deed) (
      l,
      allowance_read a p n t (action_value act) fs on.effect on.name are h,
      record { number = i; trigger = trigger_is t on trigger; action = refl; amount = refl; name = place_get p.allowances.items h.name on.name h.place },
    )
read_by a p n t fs (deeds.OnSum adds) on are i trigger timely h =
    let turn = subst (λ (u : Trigger). IsTriggerOf u on.event on.pattern.items on.result.items) timely.1 trigger in
    let l = sum_line n timely.0 adds h.name (amount_value h.value) in
    let move : Bool × Amount = (adds, h.value) in
    subst (λ (e : Option (rules.Action × ℕ)). MoreLines e (map name_of p.allowances.items) (map name_of p.sums.items) a (with_deed a n t (OnSum adds) fs) on) (sym h.deed) (
      l,
      move,
      ap (λ u. with_deed a n u (OnSum adds) fs) timely.1 ∙ sum_read a p n timely.0 adds fs on.effect on.name are h,
      h.move,
      record { number = i; turn = turn.0; pattern = turn.1; adds = refl; amount = refl; name = place_get p.sums.items h.name on.name h.place },
    )

-- an `on` line that was read
pub on_read : (a : AppRules) (p : Partial) (n : ℕ) (e : Event) (all fs : List (List ℕ)) (word : List ℕ) (h : Head) (on : On) → ArePart a p → all ≡ word ∷ fs → Some (event_value e) ≡ lookup event_words word
    → IsHead e fs h → on.event ≡ e → on.pattern ≡ h.pattern → on.result ≡ h.result → on.line ≡ n → IsEffect p (fields h.after.now) h.deeds on.effect on.name
    → IsOnRead (map name_of p.allowances.items) (map name_of p.sums.items) a (on_line a n all) on
on_read a p n e all fs word h on are parts named head ev pattern result line effect = grind (arith, read_by)

-- ---- refused lines

-- the fault of a line
abbrev pub OnFault : Partial → ℕ → List (List ℕ) → Fault → Type 0
OnFault p n fs e = (a : AppRules) → ArePart a p → Faulty (on_line a n fs) e

-- a line without an event
pub no_event : (a : AppRules) (n : ℕ) (all : List (List ℕ)) → all ≡ [] → on_line a n all ≡ Err (Deck BadLine)
no_event a n all e = ap (on_line a n) e

event_is : (a : AppRules) (n : ℕ) (all fs : List (List ℕ)) (word : List ℕ) (o : Option EventWord) → all ≡ word ∷ fs → o ≡ lookup event_words word → on_line a n all ≡ (ok_or o (Deck BadLine) >>= λ w. with_event_line a n w fs)
event_is a n all fs word o e h = ap (on_line a n) e ∙ ap (λ o. ok_or o (Deck BadLine) >>= λ w. with_event_line a n w fs) (sym h)

pub other_event : (a : AppRules) (n : ℕ) (all fs : List (List ℕ)) (word : List ℕ) → all ≡ word ∷ fs → None ≡ lookup event_words word → on_line a n all ≡ Err (Deck BadLine)
other_event a n all fs word e h = event_is a n all fs word None e h

pub head_refused : (a : AppRules) (n : ℕ) (all fs : List (List ℕ)) (word : List ℕ) (w : EventWord) (e : Fault) → all ≡ word ∷ fs → Some w ≡ lookup event_words word → Faulty (with_event_line a n w fs) e → Faulty (on_line a n all) e
head_refused a n all fs word w e parts named h = same_faulty (on_line a n all) (with_event_line a n w fs) e (event_is a n all fs word (Some w) parts named) h

pub effect_refused : (a : AppRules) (n : ℕ) (all fs : List (List ℕ)) (word : List ℕ) (ev : Event) (h : Head) (e : Fault) → all ≡ word ∷ fs → Some (event_value ev) ≡ lookup event_words word → (head : IsHead ev fs h)
    → Faulty (with_deed a n head.trigger (deeds_value h.deeds) (fields h.after.now)) e → Faulty (on_line a n all) e
effect_refused a n all fs word ev h e parts named head f =
    head_refused a n all fs word (event_value ev) e parts named (same_faulty (with_event_line a n (event_value ev) fs) (with_deed a n head.trigger (deeds_value h.deeds) (fields h.after.now)) e (head.leads a n) f)

-- ---- one more line

added_by : (a : AppRules) (p : Partial) (r : Result AppRules RuleCause) (on : On) (d : Option (rules.Action × ℕ)) → ArePart a p → deed_of on.effect ≡ d → MoreLines d (map name_of p.allowances.items) (map name_of p.sums.items) a r on
    → AreListsRead r p.load p.allowances.items p.sums.items (p.ons.items ++ on ∷ []) p.always.items p.balances.items p.never
added_by a p r on d are e h = grind (arith, lines_sum, sum_lines_more, lines_allowance, sum_lines_still)

-- the rules with one more `on` line
pub on_added : (a : AppRules) (p : Partial) (r : Result AppRules RuleCause) (on : On) (more : List On) → ArePart a p → IsOnRead (map name_of p.allowances.items) (map name_of p.sums.items) a r on → more ≡ p.ons.items ++ on ∷ []
    → AreListsRead r p.load p.allowances.items p.sums.items more p.always.items p.balances.items p.never
on_added a p r on more are h m =
    subst (λ (x : List On). AreListsRead r p.load p.allowances.items p.sums.items x p.always.items p.balances.items p.never) (sym m) (added_by a p r on (deed_of on.effect) are refl h)
