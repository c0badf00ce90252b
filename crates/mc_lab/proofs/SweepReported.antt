-- The observed states of a swept line, and the word of each of its writes.
use Rattle.std.specs.Prelude.{◌≡◌, ℕ, ◌<◌, ◌≤◌, Bool, true, ◌&&◌, nat_le, ◌==◌, bytes_eq, List, [], ◌∷◌, ◌++◌, Option, refl}
use Rattle.std.specs.List.{AllByRecursion}
use Rattle.std.proofs.Common.{arith, ap, sym, subst, inl, inr, ◌∙◌}
use Rattle.std.proofs.lemmas.Bool.{leb-true, eq-eqb, and_from as both-true, and_parts}
use Rattle.std.proofs.lemmas.Slice.Eq.{bytes_eq-Decides}
use Rattle.law_explore.specs.model_device.proofs.ImageLemmas.{all_append}
use Rattle.law_explore.specs.model_device.specs.Bytes.{zeros}
use Rattle.law_explore.specs.model_device.specs.Card.{App, Card}
use Rattle.law_explore.specs.model_card.specs.Items.{Item, moves, apps_after_items, at_stop}
use Rattle.law_explore.specs.model_play.specs.Given.{apps_in}
use Rattle.law_explore.specs.model_device.specs.Words.{cause_text}
use Rattle.law_explore.specs.model_play.specs.Play.{Unarmed, State, AfterPower, moves_of, armed_stop_in, is_card_line}
use Rattle.law_explore.specs.model_device.specs.PowerUp.{Base, OnCard}
use Rattle.law_explore.specs.model_play.specs.DeckGrammar.{DeckLine}
use Rattle.mc_lab.specs.Sweeps.{state_on_blank, ReportedState, Holds, NoCard, static_bytes_under, are_same_held, state_after_power, is_same, word_by, word_if, word_of, all_same, ones, cut_statement, power, under_cut, under_cuts, writes_behind, recovery_states, cut_write, is_unarmed, is_swept}
use Rattle.mc_lab.specs.declared.sweep_word.SweepWord.{SweepWord}
use Rattle.mc_lab.specs.declared.sweep_word.SweepWord.TheVariants.{Before, After, Same}
use Rattle.mc_lab.specs.SweepLaws.{count_of_changes, opening_write, items_behind, changing_behind, opening_behind}
use Rattle.mc_lab.proofs.SweepPlays.{next, played_one, played_two, base_in, shown, reported_lines, base_done, shown_none, zeros_shut, ones_shut, CutTo, line_cut, line_whole, power_items, items_on, unarmed_is}
use Rattle.mc_lab.specs.SweepBodies.{OpensNoGate}
use Rattle.mc_lab.proofs.SweepChanges.{all_held_itself, apart_turned, none_stopped, none_done, Splits, one_splits}
use Rattle.mc_lab.proofs.SweepRuns.{all_counted}

-- ---- equal observed states

reported_itself : (t : ReportedState) → is_same t t ≡ true
reported_itself (Holds a) = all_held_itself a
reported_itself (NoCard c p) = both-true (bytes_eq (cause_text c) (cause_text c)) (p == p) ((bytes_eq-Decides (cause_text c) (cause_text c)).1 refl) (eq-eqb p p refl)

all_the_same : (t : ReportedState) (ts : List ReportedState) → AllByRecursion (λ u. u ≡ t) ts → all_same t ts ≡ true
all_the_same t [] all = refl
all_the_same t (u ∷ us) all =
    both-true (is_same u t) (all_same t us) (subst (λ (x : ReportedState). is_same x t ≡ true) (sym all.0) (reported_itself t)) (all_the_same t us all.1)

-- ---- a line that is swept

-- a line that is swept: a card line without an armed stop that makes a write
pub record SweptAt (front : List (ℕ × DeckLine)) (l : ℕ × DeckLine) : Type 0 where
  pub card : is_card_line l.1 ≡ true
  pub unarmed : armed_stop_in (state_on_blank front) ≡ Unarmed
  pub some : 1 ≤ writes_behind front l

-- a line that the test finds swept is one
pub swept_at : (front : List (ℕ × DeckLine)) (l : ℕ × DeckLine) → is_swept front l ≡ true → SweptAt front l
swept_at front l h =
    let p = and_parts (is_card_line l.1 && is_unarmed (armed_stop_in (state_on_blank front))) (nat_le 1 (writes_behind front l)) h in
    let q = and_parts (is_card_line l.1) (is_unarmed (armed_stop_in (state_on_blank front))) p.0 in
    record { card = q.0; unarmed = unarmed_is (armed_stop_in (state_on_blank front)) q.1; some = leb-true 1 (writes_behind front l) p.1 }

module _ (names : List (List ℕ)) (front : List (ℕ × DeckLine)) (l : ℕ × DeckLine) (at : SweptAt front l) where
  abbrev state : State
  state = state_on_blank front

  -- the observed state after these items
  abbrev shown_with : List Item → ReportedState
  shown_with is = shown names (base_done (base_in state) is)

  -- the items that are complete after a cut
  abbrev whole_at : ℕ → List Item
  whole_at k = (at_stop (items_behind front l) k (zeros 8)).whole

  before_reported : state_after_power names front ≡ shown_with []
  before_reported = reported_lines names front state refl at.unarmed ∙ sym (shown_none names (base_in state))

  after_reported : state_after_power names (front ++ l ∷ []) ≡ shown_with (items_behind front l)
  after_reported =
      let c = line_whole state l at.unarmed at.card at.some in
      reported_lines names (front ++ l ∷ []) (AfterPower c.warm) (played_one front l ∙ c.state) c.unarmed ∙ c.reported names

  module _ (k : ℕ) (low : 1 ≤ k) (high : k ≤ writes_behind front l) where
    cut_line : (x : List ℕ) → OpensNoGate x → CutTo state (whole_at k) (next (next state (cut_statement l.0 k x)) l)
    cut_line x shuts = line_cut state l l.0 k x at.unarmed at.card shuts low high

    cut_state : (x : List ℕ) (shuts : OpensNoGate x) → state_on_blank (under_cut front l k x) ≡ AfterPower (cut_line x shuts).warm
    cut_state x shuts = played_two front (cut_statement l.0 k x) l ∙ (cut_line x shuts).state

    cut_reported : (x : List ℕ) → OpensNoGate x → state_after_power names (under_cut front l k x) ≡ shown_with (whole_at k)
    cut_reported x shuts = let c = cut_line x shuts in reported_lines names (under_cut front l k x) (AfterPower c.warm) (cut_state x shuts) c.unarmed ∙ c.reported names

    -- the recovery is cut too
    cuts_reported : (x : List ℕ) → OpensNoGate x → (j : ℕ) → 1 ≤ j → j ≤ writes_behind (under_cut front l k x) (power l.0) → state_after_power names (under_cuts front l k x j) ≡ shown_with (whole_at k)
    cuts_reported x shuts j first last =
        let c = cut_line x shuts in
        let d = line_cut (AfterPower c.warm) (power l.0) l.0 j x c.unarmed refl shuts first (subst (λ (s : State). j ≤ moves_of s (power l.0)) (cut_state x shuts) last) in
        let is = played_two (under_cut front l k x) (cut_statement l.0 j x) (power l.0) ∙ ap (λ (s : State). next (next s (cut_statement l.0 j x)) (power l.0)) (cut_state x shuts) ∙ d.state in
        reported_lines names (under_cuts front l k x j) (AfterPower d.warm) is d.unarmed
        ∙ d.reported names
        ∙ ap (λ (is : List Item). shown names (base_done c.warm.base (at_stop is j (zeros 8)).whole)) (power_items c.warm l.0)
        ∙ shown_none names c.warm.base
        ∙ c.reported names

    recovered_all : (x : List ℕ) → OpensNoGate x → AllByRecursion (λ u. u ≡ shown_with (whole_at k)) (recovery_states names front l k x)
    recovered_all x shuts =
        all_counted (λ u. u ≡ shown_with (whole_at k)) (λ j. state_after_power names (under_cuts front l k x j)) 1 (writes_behind (under_cut front l k x) (power l.0))
        (λ j first last. cuts_reported x shuts j first (omega arith))

    others : List ReportedState
    others = recovery_states names front l k (zeros 8) ++ state_after_power names (under_cut front l k ones) ∷ recovery_states names front l k ones

    others_all : AllByRecursion (λ u. u ≡ shown_with (whole_at k)) others
    unfolding others
    others_all =
        all_append (λ u. u ≡ shown_with (whole_at k)) (recovery_states names front l k (zeros 8)) (state_after_power names (under_cut front l k ones) ∷ recovery_states names front l k ones)
        (recovered_all (zeros 8) zeros_shut) (cut_reported ones ones_shut, recovered_all ones ones_shut)

    -- the states of one write are equal
    word_same : (before after t u : ReportedState) (ts : List ReportedState) → t ≡ u → all_same u ts ≡ true → word_of before after t ts ≡ word_by (is_same u before) (is_same u after)
    word_same before after t u ts e all =
        ap (λ (x : ReportedState). word_of before after x ts) e ∙ ap (λ (b : Bool). word_if b (word_by (is_same u before) (is_same u after))) all

    -- the word of a write, by its complete items, the state before and the state after
    pub word_reported : (cut_write names front l (state_after_power names front) (state_after_power names (front ++ l ∷ [])) k).word
        ≡ word_by (is_same (shown_with (whole_at k)) (shown_with [])) (is_same (shown_with (whole_at k)) (shown_with (items_behind front l)))
    unfolding cut_write others
    word_reported =
        word_same (state_after_power names front) (state_after_power names (front ++ l ∷ [])) (state_after_power names (under_cut front l k (zeros 8))) (shown_with (whole_at k)) others
        (cut_reported (zeros 8) zeros_shut) (all_the_same (shown_with (whole_at k)) others others_all)
        ∙ ap (λ (b : ReportedState). word_by (is_same (shown_with (whole_at k)) b) (is_same (shown_with (whole_at k)) (state_after_power names (front ++ l ∷ [])))) before_reported
        ∙ ap (λ (a : ReportedState). word_by (is_same (shown_with (whole_at k)) (shown_with [])) (is_same (shown_with (whole_at k)) a)) after_reported

  -- ---- by the items that change the observed state

  abbrev word_at : ℕ → SweepWord
  word_at k = (cut_write names front l (state_after_power names front) (state_after_power names (front ++ l ∷ [])) k).word

  -- a line without items
  no_items : (k : ℕ) → 1 ≤ k → k ≤ writes_behind front l → (is : List Item) → is ≡ []
      → word_by (is_same (shown_with (at_stop is k (zeros 8)).whole) (shown_with [])) (is_same (shown_with (at_stop is k (zeros 8)).whole) (shown_with is)) ≡ Same
  no_items k low high is none = grind (arith, reported_itself)

  no_changes : (is : List Item) (apps : List (List ℕ × App)) → is ≡ [] → count_of_changes names apps is ≡ 0
  no_changes is apps none = ap (λ (js : List Item). count_of_changes names apps js) none

  -- a line on a card
  module _ (c : Card) (base : base_in state ≡ OnCard c) (apps : apps_in state ≡ c.apps) (moves_are : writes_behind front l ≡ moves (items_behind front l)) where
    abbrev held_with : List Item → List (Option (List ℕ))
    held_with is = static_bytes_under names (apps_after_items c.apps is)

    on_card : (is : List Item) → shown_with is ≡ Holds (held_with is)
    on_card is = ap (λ (b : Base). shown names (base_done b is)) base

    changing_is : changing_behind names front l ≡ count_of_changes names c.apps (items_behind front l)
    changing_is = ap (λ (m : List (List ℕ × App)). count_of_changes names m (items_behind front l)) apps

    opening_is : opening_behind names front l ≡ opening_write names c.apps (items_behind front l)
    opening_is = ap (λ (m : List (List ℕ × App)). opening_write names m (items_behind front l)) apps

    word_held : (k : ℕ) → 1 ≤ k → k ≤ writes_behind front l
        → word_at k ≡ word_by (are_same_held (held_with (whole_at k)) (held_with [])) (are_same_held (held_with (whole_at k)) (held_with (items_behind front l)))
    word_held k low high = grind (arith, word_reported, on_card)

    -- no item changes the observed state
    card_same : (k : ℕ) → 1 ≤ k → k ≤ writes_behind front l → changing_behind names front l ≡ 0 → word_at k ≡ Same
    card_same k low high none = grind (arith, changing_is, none_stopped, none_done, word_held, all_held_itself)

    -- one item changes the observed state
    module _ (one : changing_behind names front l ≡ 1) where
      splits : Splits names c.apps (items_behind front l)
      splits = one_splits names (items_behind front l) c.apps (sym changing_is ∙ one)

      card_before : (k : ℕ) → 1 ≤ k → k ≤ opening_behind names front l → word_at k ≡ Before
      card_before k low high = grind (arith, splits, opening_is, word_held, zeros_shut, all_held_itself)

      card_after : (k : ℕ) → opening_behind names front l < k → k ≤ writes_behind front l → word_at k ≡ After
      card_after k low high = grind (arith, splits, opening_is, word_held, apart_turned, all_held_itself)

      card_within : (1 ≤ opening_behind names front l) × (opening_behind names front l < writes_behind front l)
      card_within = grind (arith, splits, opening_is)

  -- ---- any swept line

  -- a write of a line that changes nothing has the word `same`
  pub word_none : (k : ℕ) → 1 ≤ k → k ≤ writes_behind front l → changing_behind names front l ≡ 0 → word_at k ≡ Same
  word_none k low high none = elim (items_on state l) [
    | inl empty ↦ word_reported k low high ∙ no_items k low high (items_behind front l) empty
    | inr card ↦ card_same card.0 card.1 card.2 card.3 k low high none
  ]

  -- one item changes the observed state, with the write that opens its gate
  pub record SplitsLine : Type 0 where
    pub low : 1 ≤ opening_behind names front l
    pub high : opening_behind names front l < writes_behind front l
    pub before : (k : ℕ) → 1 ≤ k → k ≤ opening_behind names front l → word_at k ≡ Before
    pub after : (k : ℕ) → opening_behind names front l < k → k ≤ writes_behind front l → word_at k ≡ After

  -- a line that one item changes splits at the write that opens its gate
  pub splits_line : changing_behind names front l ≡ 1 → SplitsLine
  splits_line one = elim (items_on state l) [
    | inl empty ↦ absurd (let e : changing_behind names front l ≡ 0 = no_changes (items_behind front l) (apps_in state) empty in omega (arith, e, one))
    | inr card ↦
        let within = card_within card.0 card.1 card.2 card.3 one in
        record { low = within.0; high = within.1; before = card_before card.0 card.1 card.2 card.3 one; after = card_after card.0 card.1 card.2 card.3 one }
  ]
