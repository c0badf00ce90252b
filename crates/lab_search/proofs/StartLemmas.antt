-- The start of a search.
use Rattle.std.proofs.Common.{◌≡◌, Bool, true, false, not, ◌&&◌, refl, ap, ◌∙◌}
use Rattle.law_explore_text.specs.model_device.specs.PowerUp.{Base, OnCard, AtFault}
use Rattle.law_explore_text.specs.model_play.specs.Play.{Live, Running, Unpowered, Muted, Warm, Unarmed}
use Rattle.law_explore_text.specs.model_play.specs.Family.{is_running}
use Rattle.law_explore_text.specs.law_explore.specs.Rules as rule
use Rattle.law_explore_text.specs.law_explore.specs.States.{first_play, play_of_deck, running_or_powered, warm_in}
use Rattle.law_explore_text.specs.law_explore.specs.Search.{first_state}
use Rattle.lab_search.specs.Kept.{needs_power}

and_false : (a : Bool) → (a && false) ≡ false
and_false true = refl
and_false false = refl

ran_by : (v : Live) (b : Base) (s : Warm) → s.live ≡ v → (is_running (running_or_powered v b s).live && not (needs_power v b)) ≡ is_running v
ran_by (Running x) b s e = ap (λ l. is_running l && true) e
ran_by Unpowered (OnCard c) s e = and_false (is_running (running_or_powered Unpowered (OnCard c) s).live)
ran_by Unpowered (AtFault c p) s e = ap (λ l. is_running l && true) e
ran_by Muted (OnCard c) s e = and_false (is_running (running_or_powered Muted (OnCard c) s).live)
ran_by Muted (AtFault c p) s e = ap (λ l. is_running l && true) e

-- a card runs at the end of a deck exactly if one runs in the first state without a power line
pub ran_is : (x : rule.Exploration) → (is_running (first_state x).live && not (needs_power (warm_in (play_of_deck x.lines)).live (warm_in (play_of_deck x.lines)).base)) ≡ is_running (warm_in (play_of_deck x.lines)).live
unfolding first_state first_play
ran_is x =
    let s = warm_in (play_of_deck x.lines) in
    ran_by s.live s.base (record s { armed = Unarmed }) refl

-- whether the card ran before the added power line is what the deck left
pub ran_start : (x : rule.Exploration) (ran runs power : Bool) → ran ≡ (runs && not power) → runs ≡ is_running (first_state x).live
    → power ≡ needs_power (warm_in (play_of_deck x.lines)).live (warm_in (play_of_deck x.lines)).base → ran ≡ is_running (warm_in (play_of_deck x.lines)).live
ran_start x ran runs power e f g = e ∙ ap (λ b. b && not power) f ∙ ap (λ b. is_running (first_state x).live && not b) g ∙ ran_is x
