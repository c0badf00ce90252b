-- The device of a try stays the same one: after a move a card is one of its size, and a fault is the same fault.
use Rattle.std.specs.Prelude.{◌≡◌, ℕ, ◌-◌, Bool, true, false, cond, nat_le, List, Option, Some, None, refl}
use Rattle.std.proofs.Common.{sym, subst, ◌∙◌}
use Rattle.law_explore_text.specs.model_device.specs.Stopped.{stands}
use Rattle.law_explore_text.specs.model_device.specs.Image.{Two, One}
use Rattle.law_explore_text.specs.model_device.specs.PowerUp.{Base, OnCard, AtFault, base_after_migration}
use Rattle.law_explore_text.specs.model_card.specs.Items.{StopAt, moves}
use Rattle.law_explore_text.specs.model_play.specs.DeckGrammar.{DeckLine}
use Rattle.law_explore_text.specs.model_play.specs.DeckGrammar as line
use Rattle.law_explore_text.specs.model_card.specs.Commands.{Command}
use Rattle.law_explore_text.specs.model_device.specs.Card.{Card}
use Rattle.law_explore_text.specs.model_play.specs.Play.{Live, Running, Unpowered, Muted, Warm, State, AfterPower, ArmedCut, Unarmed, step, is_card_line, hit_of, power_moves, power_after, stopped_power, command_step, line_command, card_line}
use Rattle.law_explore_text.specs.law_explore.specs.Rules.{Move}
use Rattle.law_explore_text.specs.law_explore.specs.States.{CardState, play_of, state_in, warm_in}
use Rattle.law_explore_text.specs.law_explore.specs.Tries.{Manner, Whole, CutAt, step_of, recovery, next}
use Rattle.lab_key.specs.Kept.{IsOfDevice}
use Rattle.lab_search.proofs.MoveLemmas.{card_line_leaves}

-- a base that can be after another on one device
abbrev pub FollowsBase : Base → Base → Type 0
FollowsBase (OnCard c) (OnCard d) = d.size ≡ c.size
FollowsBase (OnCard c) (AtFault cause place) = ⊥
FollowsBase (AtFault cause place) b = b ≡ AtFault cause place

follows_self : (b : Base) → FollowsBase b b
follows_self (OnCard c) = refl
follows_self (AtFault cause place) = refl

follows_then : (a b c : Base) → FollowsBase a b → FollowsBase b c → FollowsBase a c
follows_then (OnCard x) (OnCard y) (OnCard z) h k = k ∙ h
follows_then (OnCard x) (OnCard y) (AtFault cause place) h k = absurd k
follows_then (OnCard x) (AtFault cause place) c h k = absurd h
follows_then (AtFault cause place) b c h k = subst (λ (y : Base). FollowsBase y c) h k

migration_follows : (b : Base) → FollowsBase b (base_after_migration b)
migration_follows (OnCard c) = refl
migration_follows (AtFault cause place) = refl

either_follows : (b : Base) (t : Bool) → FollowsBase b (cond t (base_after_migration b) b)
either_follows b true = migration_follows b
either_follows b false = follows_self b

stopped_follows : (s : Warm) (t : StopAt) (b : Bool) → FollowsBase s.base (stopped_power s t b).base
stopped_follows s t true = follows_self s.base
stopped_follows s t false = either_follows s.base (stands One 1 (t.at - s.owed) t.left)

power_follows : (s : Warm) (t : Option StopAt) → FollowsBase s.base (power_after s t).base
power_follows s None = migration_follows s.base
power_follows s (Some t) = stopped_follows s t (nat_le t.at s.owed)

-- the base of the play after a step
abbrev pub base_then : State → Base
base_then s = (warm_in s).base

command_follows : (n : ℕ) (l : DeckLine) (s : Warm) (c : Card) (r : Command) (t : Option StopAt) → FollowsBase (OnCard c) (base_then (command_step n l s c r t).after)
command_follows n l s c r None = refl
command_follows n l s c r (Some t) = refl

line_follows : (n : ℕ) (l : DeckLine) (s : Warm) (v : Live) (b : Base) → s.base ≡ b → FollowsBase b (base_then (card_line n l s v b None).after)
line_follows n l s (Running session_state) (OnCard c) h =
    let r = line_command c session_state s.budget l in
    command_follows n l s c r (hit_of s.armed (moves r.items) None)
line_follows n l s (Running session_state) (AtFault cause place) h = h
line_follows n l s Unpowered b h = subst (λ (x : Base). FollowsBase b x) (sym h) (follows_self b)
line_follows n l s Muted b h = subst (λ (x : Base). FollowsBase b x) (sym h) (follows_self b)

step_follows : (n : ℕ) (l : DeckLine) (s : Warm) → is_card_line l ≡ true → FollowsBase s.base (base_then (step (AfterPower s) (n, l) None).after)
unfolding step
step_follows n line.Power s is = power_follows s (hit_of s.armed (power_moves s) None)
step_follows n (line.Sent sent) s is = line_follows n (line.Sent sent) s s.live s.base refl
step_follows n _ s is = absurd (cc is)

recovery_follows : (n : ℕ) (s : State) (w : Warm) → s ≡ AfterPower w → FollowsBase (base_then s) (base_then (next s (n, line.Power)))
recovery_follows n s w h =
    subst (λ (z : State). FollowsBase (base_then z) (base_then (next z (n, line.Power)))) (sym h) (step_follows n line.Power w refl)

-- after a move the device has the same size, or the same fault
pub move_follows : (c : CardState) (m : Move) (w : Manner) (a : List (List ℕ × ℕ)) → is_card_line m.line ≡ true
    → FollowsBase c.base (state_in (recovery m.number w (step_of (play_of c) m w).after) a).base
unfolding step
move_follows c m Whole a is = step_follows m.number m.line (record { base = c.base; owed = 0; by = Two; live = c.live; budget = c.budget; armed = Unarmed }) is
move_follows c m (CutAt k x) a is =
    let s : Warm = record { base = c.base; owed = 0; by = Two; live = c.live; budget = c.budget; armed = ArmedCut k x } in
    let t = (step (AfterPower s) (m.number, m.line) None).after in
    let h = card_line_leaves m.number m.line s is in
    follows_then c.base (base_then t) (base_then (next t (m.number, line.Power))) (step_follows m.number m.line s is) (recovery_follows m.number t h.warm h.is)

-- a base that follows one of a device is one of it
pub still_of_device : (root : List (List ℕ)) (b d : Base) → FollowsBase b d → IsOfDevice root b → IsOfDevice root d
still_of_device root (OnCard c) (OnCard d) h k = h ∙ k
still_of_device root (OnCard c) (AtFault cause place) h k = absurd h
still_of_device root (AtFault cause place) d h k = subst (λ (x : Base). IsOfDevice root x) (sym h) k
