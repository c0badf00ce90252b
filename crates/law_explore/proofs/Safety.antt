-- If a search promises a number of tries in a row, no list of as many actions spends an allowance below zero.
use Rattle.std.specs.Prelude.{◌≡◌, ℕ, true, List, [], ◌∷◌, ◌++◌, length, map, flat_map, Result, Ok, Err, refl}
use Rattle.std.proofs.Common.{arith, ap, sym, subst, inl, inr, ◌∙◌}
use Rattle.model_play.specs.model_text.specs.Text.{ok_as}
use Rattle.model_play.specs.Play.{State, AfterPower, is_card_line}
use Rattle.law_explore.specs.Rules.{Move, OnRule, Rules, Exploration, exploration_read}
use Rattle.law_explore.specs.States.{CardState, play_of, state_in, first_play}
use Rattle.law_explore.specs.Tries.{Manner, Try, manners, writes_of, tries_with, tries_of, step_of, recovery, allowances_after, outcome}
use Rattle.law_explore.specs.Search.{Ending, All, AtDepth, TooMany, search_from, first_state, search_of}
use Rattle.law_explore.specs.Safety.{Among, Action, after_action, KeepsRules, KeepsRulesIn, AllLaw, DepthLaw, LimitLaw}
use Rattle.law_explore.proofs.Showings.{allowances_same}
use Rattle.law_explore.proofs.Actions.{Agrees, refilled, IsTried, action_tried}
use Rattle.law_explore.proofs.Starts.{first_agrees}
use Rattle.law_explore.proofs.Searches.{among_all, Safe, Promises, promise_by_ending, search_safe}
use Rattle.law_explore.proofs.ReadRules.{AreMoves, moves_of_exploration}

-- ---- the try of an action

among_front : {A : Type 0} (a : A) (xs ys : List A) → Among a xs → Among a (xs ++ ys)
among_front a [] ys i = absurd i
among_front a (x ∷ xs) ys (inl e) = inl e
among_front a (x ∷ xs) ys (inr i) = inr (among_front a xs ys i)

among_back : {A : Type 0} (a : A) (xs ys : List A) → Among a ys → Among a (xs ++ ys)
among_back a [] ys i = i
among_back a (x ∷ xs) ys i = inr (among_back a xs ys i)

among_map : {A B : Type 0} (f : A → B) (a : A) (xs : List A) → Among a xs → Among (f a) (map f xs)
among_map f a [] i = absurd i
among_map f a (x ∷ xs) (inl e) = inl (ap f e)
among_map f a (x ∷ xs) (inr i) = inr (among_map f a xs i)

among_flat : {A B : Type 0} (f : A → List B) (a : A) (b : B) (xs : List A) → Among a xs → Among b (f a) → Among b (flat_map f xs)
among_flat f a b [] i j = absurd i
among_flat f a b (x ∷ xs) (inl e) j = among_front b (f x) (flat_map f xs) (subst (λ y. Among b (f y)) e j)
among_flat f a b (x ∷ xs) (inr i) j = among_back b (f x) (flat_map f xs) (among_flat f a b xs i j)

abbrev try_by : Move → Manner → Try
try_by m w = record { move = m; manner = w }

try_among : (ms : List Move) (c : CardState) (m : Move) (w : Manner) → Among m ms → Among w (manners c.live (writes_of (play_of c) m)) → Among (try_by m w) (tries_of ms c)
unfolding tries_of
try_among ms c m w i j = among_flat (tries_with c) m (try_by m w) ms i (among_map (λ v. try_by m v) w (manners c.live (writes_of (play_of c) m)) j)

-- ---- its outcome

-- an answer with its value changed is that of the answer
pub record CameFrom {A B E : Type 0} (f : A → B) (x : Result A E) (b : B) : Type 0 where
  pub value : A
  pub is : x ≡ Ok value
  pub same : f value ≡ b

came_from : {A B E : Type 0} (f : A → B) (x : Result A E) (b : B) → ok_as f x ≡ Ok b → CameFrom f x b
came_from f (Ok a) b h = record { value = a; is = refl; same = cc h }
came_from f (Err e) b h = absurd (cc h)

-- the state after a try and its recovery, with these allowances
abbrev pub left_by : CardState → Move → Manner → List (List ℕ × ℕ) → CardState
left_by c m w a = state_in (recovery m.number w (step_of (play_of c) m w).after) a

-- the outcome of a try that breaks nothing is its state with the allowances after it
pub outcome_from : (ons : List OnRule) (c : CardState) (m : Move) (w : Manner) (d : CardState) → outcome ons c (try_by m w) ≡ Ok d
    → CameFrom {E = List ℕ} (left_by c m w) (allowances_after ons m (step_of (play_of c) m w) c.allowances) d
unfolding outcome
outcome_from ons c m w d h = came_from (left_by c m w) (allowances_after ons m (step_of (play_of c) m w) c.allowances) d h

-- ---- all actions

module _ (limit : ℕ) (rules : Rules) (moves : AreMoves rules.moves) where
  -- no list of as many actions as a state is safe for breaks a rule
  pub safe_keeps : (ts : List Action) (s : State) (c : CardState) → Agrees s c → Safe limit rules (length ts) c → KeepsRules rules s c.allowances ts
  safe_keeps [] s c agrees safe = tt
  safe_keeps (t ∷ ts) s c agrees safe = λ can.
      let m = t.move in
      let card : is_card_line m.line ≡ true = among_all (λ n. is_card_line n.line ≡ true) m rules.moves moves can.move in
      let tried : IsTried s c m t.manner t.again = action_tried s c m t.manner t.again card agrees can.manner in
      let w : Manner = refilled t.manner tried.fill in
      let kept = among_all (λ u. (d : CardState) × (outcome rules.ons c u ≡ Ok d) × Safe limit rules (length ts) d) (try_by m w) (tries_of rules.moves c) safe (try_among rules.moves c m w can.move tried.among) in
      let from = outcome_from rules.ons c m w kept.0 kept.1 in
      let b = from.value in (
        b,
        allowances_same rules.ons m _ _ c.allowances (tried.done).shows ∙ from.is,
        safe_keeps ts (after_action s t) (left_by c m w b) ((tried.done).after b) (subst (λ (d : CardState). Safe limit rules (length ts) d) (sym from.same) kept.2),
      )

-- ---- the laws

-- the ending of a search is that of its depths from the first state
pub ending_first : (limit n : ℕ) (x : Exploration) → (search_of limit n x).ending ≡ (search_from n limit x.rules (first_state x)).ending
unfolding search_of
ending_first limit n x = refl

keeps_from : (limit n : ℕ) (text : List ℕ) (x : Exploration) (e : Ending) → exploration_read text ≡ Ok x → (search_of limit n x).ending ≡ e → (ts : List Action)
    → Promises limit x.rules e 0 (length ts) → KeepsRulesIn x ts
unfolding first_state
keeps_from limit n text x e read ends ts promise =
    safe_keeps limit x.rules (moves_of_exploration text x read) ts (AfterPower (first_play x.lines)) (first_state x) (first_agrees x)
    (search_safe limit x.rules (λ e d k. Promises limit x.rules e.ending d k) (promise_by_ending limit x.rules) n (first_state x) (length ts) (subst (λ (z : Ending). Promises limit x.rules z 0 (length ts)) (sym ends ∙ ending_first limit n x) promise))

-- a search that ends with all states is safe for every number of actions
pub all_law : AllLaw
all_law limit n text x read ends ts = keeps_from limit n text x All read ends ts tt

-- a search that ends at a depth is safe for as many actions
pub depth_law : DepthLaw
depth_law limit n d text x read ends ts few = keeps_from limit n text x (AtDepth d) read ends ts (omega arith)

-- a search that ends at its limit of states is safe for fewer actions than the depth it ended at
pub limit_law : LimitLaw
limit_law limit n d text x read ends ts few = keeps_from limit n text x (TooMany d) read ends ts (omega arith)
