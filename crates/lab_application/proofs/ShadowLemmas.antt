-- The moves of a deck with the rules of one application are an exploration of moves alone.
use Rattle.std.proofs.Common.{◌≡◌, ℕ, zero, suc, ◌≤◌, ◌<◌, Bool, true, false, cond, List, [], ◌∷◌, length, replicate, Result, Ok, Err, Some, None, refl, arith, sym, ap, subst, ◌∙◌, slice_get, codes}
use Rattle.std.specs.Prelude.{bytes_eq}
use Rattle.std.specs.List.{AllByRecursion}
use Rattle.law_histories.specs.model_text.specs.Text.{◌>>=◌, ok_as}
use Rattle.law_histories.specs.model_device.specs.Bytes.{lookup}
use Rattle.law_histories.specs.model_play.specs.Play.{Step, is_card_line}
use Rattle.law_histories.specs.law_explore.specs.Rules as rule
use Rattle.law_histories.specs.law_explore.specs.States.{CardState, play_of, state_in}
use Rattle.law_histories.specs.law_explore.specs.Tries.{allowances_after, effect_times, outcome, recovery, step_of, times}
use Rattle.lab_app_rules.specs.model_events.specs.Amounts.{with_amount}
use Rattle.lab_app_rules.specs.model_events.specs.Matching.{fits, matches, plain, some_rest}
use Rattle.law_histories.specs.model_play.specs.DeckGrammar.{DeckLine}
use Rattle.lab_rules.specs.declared.reading.Exploration.{Exploration}
use Rattle.lab_rules.specs.declared.rules.Move.{Move}
use Rattle.lab_rules.specs.declared.rules.OnRule.{OnRule}
use Rattle.lab_rules.specs.declared.rules.Rules.{Rules}
use Rattle.lab_rules.specs.Meanings.{AlikeLists, AreDistinct, IsMove, IsOn}
use Rattle.lab_key.specs.declared.kept.Rosters.{Rosters}
use Rattle.lab_search.specs.declared.journey.Manner.{Manner}
use Rattle.lab_search.specs.declared.making.Candidate.{Candidate}
use Rattle.lab_search.specs.declared.trying.Laboratory.{Laboratory}
use Rattle.lab_search.specs.declared.trying.Tried.{Tried}
use Rattle.lab_search.specs.declared.trying.Tried.TheVariants as tried
use Rattle.lab_search.specs.Kept.{IsCandidate, TryIs}
use Rattle.lab_search.specs.Reports.{manner_value}
use Rattle.lab_search.proofs.AlikeLemmas.{all_get, alike_get_second}
use Rattle.lab_application.specs.Shadows.{AreMovesOf, AreShadows, SpendNothing, counter, others, shadow}

-- ---- a candidate

-- a move of a deck at a place, as the definition has it
pub record HasCandidate (r : rule.Rules) (c : Candidate) (i : ℕ) : Type 0 where
  pub move : rule.Move
  pub place : slice_get r.moves i ≡ Some move
  pub is : IsCandidate r.allowances r.ons move c

pub candidate_at : (r : rule.Rules) (e : Rules) (c : Candidate) (listed : Move) (i : ℕ) → AreShadows e r → slice_get e.moves.items i ≡ Some listed → c.chosen.now ≡ listed → c.ons.now ≡ e.ons.items → c.applies.now ≡ true ∷ []
    → HasCandidate r c i
candidate_at r e c listed i h at chosen ons applies =
    let k = alike_get_second IsMove e.moves.items r.moves i listed h.moves at in
    record {
      move = k.0;
      place = k.1;
      is = record {
        move = subst (λ (m : Move). IsMove m k.0) (sym chosen) k.2;
        card = all_get (λ (m : rule.Move). is_card_line m.line ≡ true) r.moves i k.0 h.cards k.1;
        distinct = h.distinct;
        ons = subst (λ (os : List OnRule). AlikeLists (IsOn r.allowances) os r.ons) (sym ons) h.ons;
        applies = applies ∙ h.applies k.0;
      };
    }

-- ---- the names of allowances

differs : (m n : ℕ) → m < n → bytes_eq (replicate m 0) (replicate n 0) ≡ false
differs zero zero h = absurd (omega (arith, h))
differs zero (suc n) h = refl
differs (suc m) zero h = absurd (omega (arith, h))
differs (suc m) (suc n) h = differs m n (omega (arith, h))

absent : (m n : ℕ) → m ≤ n → lookup (others m) (0 ∷ replicate n 0) ≡ None
absent zero n h = refl
absent (suc m) n h =
    ap (λ (b : Bool). cond b (Some 0) (lookup (others m) (0 ∷ replicate n 0))) (differs m n (omega (arith, h))) ∙ absent m n (omega (arith, h))

distinct_others : (n : ℕ) → AreDistinct (others n)
distinct_others zero = tt
distinct_others (suc n) = (absent n n (omega arith), distinct_others n)

no_counter : (n : ℕ) → lookup (others n) (codes "turns") ≡ None
no_counter zero = refl
no_counter (suc n) = no_counter n

pub length_others : (n : ℕ) → length (others n) ≡ n
length_others zero = refl
length_others (suc n) = ap suc (length_others n)

-- ---- the counter

rest_fits : (t : List ℕ) → some_rest (matches []) t ≡ true
unfolding matches
rest_fits [] = refl
rest_fits (c ∷ t) = rest_fits t

star_fits : (t : List ℕ) → fits (codes "*") t ≡ true
unfolding fits matches
star_fits t = rest_fits (plain t)

-- ---- no allowance is broken

allowed : (n : ℕ) (name : List ℕ) (k : ℕ) (a : List (List ℕ × ℕ)) → (b : List (List ℕ × ℕ)) × (effect_times n rule.Allows name k a ≡ Ok b)
allowed zero name k a = (a, refl)
allowed (suc n) name k a = allowed n name k (with_amount name k a)

all_allowed : (rs : List rule.OnRule) → AllByRecursion (λ r. r.effect ≡ rule.Allows) rs → (m : rule.Move) (t : Step) (a : List (List ℕ × ℕ)) → (b : List (List ℕ × ℕ)) × (allowances_after rs m t a ≡ Ok b)
unfolding allowances_after
all_allowed [] h m t a = (a, refl)
all_allowed (r ∷ rs) h m t a =
    let first = allowed (times r m t) r.name r.amount a in
    let rest = all_allowed rs h.1 m t first.0 in (
      rest.0,
      ap (λ (x : Result (List (List ℕ × ℕ)) (List ℕ)). x >>= λ b. allowances_after rs m t b) (ap (λ (e : rule.Effect). effect_times (times r m t) e r.name r.amount a) h.0 ∙ first.1) ∙ rest.1,
    )

ons_allow : (held : List (List ℕ × ℕ)) (os : List OnRule) (rs : List rule.OnRule) → AlikeLists (IsOn held) os rs → SpendNothing os → AllByRecursion (λ r. r.effect ≡ rule.Allows) rs
ons_allow held [] [] h k = tt
ons_allow held [] (r ∷ rs) h k = absurd h
ons_allow held (o ∷ os) [] h k = absurd h
ons_allow held (o ∷ os) (r ∷ rs) h k = (sym (h.0).effect ∙ k.0, ons_allow held os rs h.1 k.1)

not_broken : (rs : List rule.OnRule) → AllByRecursion (λ r. r.effect ≡ rule.Allows) rs → (c : CardState) (m : rule.Move) (w : Manner) (name : List ℕ) → outcome rs c (record { move = m; manner = manner_value w }) ≡ Err name → ⊥
unfolding outcome
not_broken rs h c m w name e =
    let t = step_of (play_of c) m (manner_value w) in
    let all = all_allowed rs h m t c.allowances in
    absurd (cc (sym (ap (λ (x : Result (List (List ℕ × ℕ)) (List ℕ)). ok_as (λ a. state_in (recovery m.number (manner_value w) t.after) a) x) all.1) ∙ e))

-- a try of `on` lines that reduce no allowance breaks none
pub never_broken : (lab : Laboratory) (r : Rosters) (names : List (List ℕ)) (held : List (List ℕ × ℕ)) (os : List OnRule) (rs : List rule.OnRule) (c : CardState) (m : rule.Move) (w : Manner) (t : Tried) (i : ℕ)
    → AlikeLists (IsOn held) os rs → SpendNothing os → TryIs lab r names rs c m w t → t ≡ tried.Broken i → ⊥
never_broken lab r names held os rs c m w tried.NotHit i ons k h e = absurd (cc e)
never_broken lab r names held os rs c m w (tried.Reached y) i ons k h e = absurd (cc e)
never_broken lab r names held os rs c m w (tried.Broken j) i ons k h e = not_broken rs (ons_allow held os rs ons k) c m w h.1.0 h.1.2

-- ---- all

counter_allows : (held : List (List ℕ × ℕ)) (os : List OnRule) → AlikeLists (IsOn held) os (counter ∷ []) → SpendNothing os
counter_allows held [] h = tt
counter_allows held (o ∷ []) h = ((h.0).effect, tt)
counter_allows held (o ∷ p ∷ os) h = absurd h.1

counter_on : (o : OnRule) (n : ℕ) → IsOn ((codes "turns", 0) ∷ []) o counter → IsOn ((codes "turns", 0) ∷ others n) o counter
counter_on o n h =
    record { line = h.line; moves = h.moves; occasion = h.occasion; pattern = h.pattern; effect = h.effect; place = h.place; amount = h.amount }

counter_ons : (os : List OnRule) (n : ℕ) → AlikeLists (IsOn ((codes "turns", 0) ∷ [])) os (counter ∷ []) → AlikeLists (IsOn ((codes "turns", 0) ∷ others n)) os (counter ∷ [])
counter_ons [] n h = h
counter_ons (o ∷ []) n h = (counter_on o n h.0, tt)
counter_ons (o ∷ p ∷ os) n h = absurd h.1

pub shadows_are : (x : Exploration) (ls : List (ℕ × DeckLine)) (ms : List rule.Move) (n : ℕ) → AreMovesOf x ls ms → AreShadows x.rules (shadow ms n)
shadows_are x ls ms n h =
    record {
      moves = h.rules.moves;
      cards = h.cards;
      distinct = (no_counter n, distinct_others n);
      ons = counter_ons x.rules.ons.items n h.rules.ons;
      allows = counter_allows ((codes "turns", 0) ∷ []) x.rules.ons.items h.rules.ons;
      applies = λ m. ap (λ (b : Bool). b ∷ []) (sym (star_fits m.text));
    }
