-- What a card line of a play does, as a try needs it.
use Rattle.std.specs.Prelude.{◌≡◌, ℕ, ◌+◌, Bool, true, false, cond, nat_le, List, Option, Some, None, ⊤, refl}
use Rattle.std.proofs.Common.{arith, ap, sym, ◌∙◌}
use Rattle.law_explore_text.specs.model_device.specs.declared.device.Stop.TheVariants as stop
use Rattle.law_explore_text.specs.model_device.specs.Image.{Two}
use Rattle.law_explore_text.specs.model_device.specs.Card.{Card}
use Rattle.law_explore_text.specs.model_device.specs.PowerUp.{Base, OnCard, AtFault, migration}
use Rattle.law_explore_text.specs.model_card.specs.Items.{moves, StopAt}
use Rattle.law_explore_text.specs.model_card.specs.Manager.{SessionState}
use Rattle.law_explore_text.specs.model_card.specs.Commands.{Command}
use Rattle.law_explore_text.specs.model_play.specs.DeckGrammar.{DeckLine}
use Rattle.law_explore_text.specs.model_play.specs.DeckGrammar as line
use Rattle.law_explore_text.specs.model_play.specs.Play.{Armed, Unarmed, ArmedCut, Live, Running, Unpowered, Muted, Warm, State, AfterPower, step, is_card_line, moves_of, hit_of, power_moves, power_result, power_says, power_after, stopped_power, card_line, command_step, line_command, line_says, line_after}
use Rattle.law_explore_text.specs.model_play.specs.Family.{is_running}
use Rattle.mc_script.specs.Cuts.{is_off}
use Rattle.law_explore_text.specs.law_explore.specs.Rules.{Move}
use Rattle.law_explore_text.specs.law_explore.specs.States.{CardState, play_of}
use Rattle.law_explore_text.specs.law_explore.specs.Tries.{Manner, Whole, CutAt, writes_of, next, step_of, recovery}
use Rattle.law_explore_text.specs.law_explore.proofs.Recoveries.{whole_power}

-- ---- what a card line leaves

-- the play after a card line: nothing is armed, the budget is as before, and without a stop nothing is owed if nothing
-- was
pub record LeavesPlay (s : Warm) (t : State) : Type 0 where
  pub warm : Warm
  pub is : t ≡ AfterPower warm
  pub unarmed : warm.armed ≡ Unarmed
  pub budget : warm.budget ≡ s.budget
  pub owed : s.armed ≡ Unarmed → s.owed ≡ 0 → warm.owed ≡ 0

stopped_leaves : (s : Warm) (t : StopAt) (b : Bool) → hit_of s.armed (power_moves s) None ≡ Some t → LeavesPlay s (AfterPower (stopped_power s t b))
stopped_leaves s t true h = record { warm = stopped_power s t true; is = refl; unarmed = refl; budget = refl; owed = λ u o. absurd (cc (sym (ap (λ (a : Armed). hit_of a (power_moves s) None) u) ∙ h)) }
stopped_leaves s t false h = record { warm = stopped_power s t false; is = refl; unarmed = refl; budget = refl; owed = λ u o. absurd (cc (sym (ap (λ (a : Armed). hit_of a (power_moves s) None) u) ∙ h)) }

power_leaves : (s : Warm) (t : Option StopAt) → hit_of s.armed (power_moves s) None ≡ t → LeavesPlay s (AfterPower (power_after s t))
power_leaves s None h = record { warm = power_after s None; is = refl; unarmed = refl; budget = refl; owed = λ u o. refl }
power_leaves s (Some t) h = stopped_leaves s t (nat_le t.at s.owed) h

command_leaves : (n : ℕ) (l : DeckLine) (s : Warm) (c : Card) (r : Command) (t : Option StopAt) → hit_of s.armed (moves r.items) None ≡ t → LeavesPlay s (command_step n l s c r t).after
command_leaves n l s c r None h = record { warm = line_after s c r None; is = refl; unarmed = refl; budget = refl; owed = λ u o. o }
command_leaves n l s c r (Some t) h = record { warm = line_after s c r (Some t); is = refl; unarmed = refl; budget = refl; owed = λ u o. absurd (cc (sym (ap (λ (a : Armed). hit_of a (moves r.items) None) u) ∙ h)) }

line_leaves : (n : ℕ) (l : DeckLine) (s : Warm) (v : Live) (b : Base) → LeavesPlay s (card_line n l s v b None).after
line_leaves n l s (Running session_state) (OnCard c) =
    let r = line_command c session_state s.budget l in
    command_leaves n l s c r (hit_of s.armed (moves r.items) None) refl
line_leaves n l s (Running session_state) (AtFault cause place) = record { warm = record s { armed = Unarmed }; is = refl; unarmed = refl; budget = refl; owed = λ u o. o }
line_leaves n l s Unpowered b = record { warm = record s { armed = Unarmed }; is = refl; unarmed = refl; budget = refl; owed = λ u o. o }
line_leaves n l s Muted b = record { warm = record s { armed = Unarmed }; is = refl; unarmed = refl; budget = refl; owed = λ u o. o }

-- a card line leaves a powered play with no armed stop and its budget
pub card_line_leaves : (n : ℕ) (l : DeckLine) (s : Warm) → is_card_line l ≡ true → LeavesPlay s (step (AfterPower s) (n, l) None).after
unfolding step
card_line_leaves n line.Power s is = power_leaves s (hit_of s.armed (power_moves s) None) refl
card_line_leaves n (line.Sent sent) s is = line_leaves n (line.Sent sent) s s.live s.base
card_line_leaves n _ s is = absurd (cc is)

-- the play after a whole power line
pub power_line_leaves : (n : ℕ) (s : Warm) (t : State) → LeavesPlay s t → (w : Warm) × (next t (n, line.Power) ≡ AfterPower w) × (w.armed ≡ Unarmed) × (w.budget ≡ s.budget) × (w.owed ≡ 0)
power_line_leaves n s t h = (power_after h.warm None, ap (λ (z : State). next z (n, line.Power)) h.is ∙ whole_power n h.warm h.unarmed, refl, h.budget, refl)

-- ---- a move and its recovery

-- the play after a move of a state and its recovery
pub record IsRecovered (g : ℕ) (t : State) : Type 0 where
  pub warm : Warm
  pub is : t ≡ AfterPower warm
  pub unarmed : warm.armed ≡ Unarmed
  pub budget : warm.budget ≡ g
  pub owed : warm.owed ≡ 0

-- a move of a state and its recovery leave a powered play with the budget of the state
pub move_recovers : (c : CardState) (m : Move) (w : Manner) → is_card_line m.line ≡ true → IsRecovered c.budget (recovery m.number w (step_of (play_of c) m w).after)
unfolding step
move_recovers c m Whole is =
    let s : Warm = record { base = c.base; owed = 0; by = Two; live = c.live; budget = c.budget; armed = Unarmed } in
    let h = card_line_leaves m.number m.line s is in
    record { warm = h.warm; is = h.is; unarmed = h.unarmed; budget = h.budget; owed = h.owed refl refl }
move_recovers c m (CutAt k x) is =
    let s : Warm = record { base = c.base; owed = 0; by = Two; live = c.live; budget = c.budget; armed = ArmedCut k x } in
    let h = card_line_leaves m.number m.line s is in
    let p = power_line_leaves m.number s (step (AfterPower s) (m.number, m.line) None).after h in
    record { warm = p.0; is = p.1; unarmed = p.2; budget = p.3; owed = p.4 }

-- ---- whether a cut hits

power_off : (m : ℕ) (b : Base) → is_off (Some (power_result m b)) ≡ false
power_off m (OnCard c) = refl
power_off m (AtFault cause place) = refl

power_hit : (s : Warm) (k : ℕ) (x : List ℕ) (b : Bool) → is_off (Some (power_says s (cond b (Some (record { kind = stop.Off; at = k; left = x })) None))) ≡ b
power_hit s k x true = refl
power_hit s k x false = power_off (power_moves s) s.base

command_hit : (r : Command) (k : ℕ) (x : List ℕ) (b : Bool) → is_off (Some (line_says r (cond b (Some (record { kind = stop.Off; at = k; left = x })) None))) ≡ b
command_hit r k x true = refl
command_hit r k x false = refl

no_part : (k n : ℕ) → nat_le k n ≡ nat_le k (0 + n)
no_part k n = let e : n ≡ 0 + n = omega arith in ap (λ (i : ℕ). nat_le k i) e

no_items : (k n : ℕ) → nat_le k n ≡ nat_le k (n + 0)
no_items k n = let e : n ≡ n + 0 = omega arith in ap (λ (i : ℕ). nat_le k i) e

module _ (n : ℕ) (t : List ℕ) (c : Card) (session_state : SessionState) (g k : ℕ) (x : List ℕ) where
  abbrev before : Armed → State
  before a = AfterPower (record { base = OnCard c; owed = 0; by = Two; live = Running session_state; budget = g; armed = a })

  abbrev Hits : DeckLine → Type 0
  Hits l = is_off (step (before (ArmedCut k x)) (n, l) None).result ≡ nat_le k (moves_of (before Unarmed) (n, l))

  hits : (l : DeckLine) → is_card_line l ≡ true → Hits l
  unfolding step moves_of
  hits line.Power is = power_hit (record { base = OnCard c; owed = 0; by = Two; live = Running session_state; budget = g; armed = ArmedCut k x }) k x (nat_le k (0 + migration (OnCard c))) ∙ no_items k (0 + migration (OnCard c))
  hits (line.Sent sent) is = let r = line_command c session_state g (line.Sent sent) in command_hit r k x (nat_le k (moves r.items)) ∙ no_part k (moves r.items)
  hits _ is = absurd (cc is)

-- a card is there
abbrev pub IsOnCard : Base → Type 0
IsOnCard (OnCard c) = ⊤
IsOnCard (AtFault cause place) = ⊥

hit_by : (b : Base) (v : Live) (g : ℕ) (a : List (List ℕ × ℕ)) (m : Move) (k : ℕ) (x : List ℕ) → is_card_line m.line ≡ true → is_running v ≡ true → IsOnCard b
    → is_off (step_of (play_of (record { base = b; live = v; budget = g; allowances = a })) m (CutAt k x)).result ≡ nat_le k (writes_of (play_of (record { base = b; live = v; budget = g; allowances = a })) m)
unfolding step
hit_by (OnCard c) (Running session_state) g a m k x is on there = hits m.number m.text c session_state g k x m.line is
hit_by (AtFault cause place) v g a m k x is on there = absurd there
hit_by (OnCard c) Unpowered g a m k x is on there = absurd (cc on)
hit_by (OnCard c) Muted g a m k x is on there = absurd (cc on)

-- a move that is cut is off exactly if it makes the write
pub move_hit : (c : CardState) (m : Move) (k : ℕ) (x : List ℕ) → is_card_line m.line ≡ true → is_running c.live ≡ true → IsOnCard c.base
    → is_off (step_of (play_of c) m (CutAt k x)).result ≡ nat_le k (writes_of (play_of c) m)
move_hit c m k x is on there = hit_by c.base c.live c.budget c.allowances m k x is on there
