-- Cuts in power lines lead to no other state once a power line is whole.
use Rattle.std.specs.Prelude.{◌≡◌, ℕ, ◌-◌, Bool, true, false, cond, nat_le, List, [], ◌∷◌, Option, Some, None, refl}
use Rattle.std.proofs.Common.{ap, ◌∙◌, arith}
use Rattle.model_play.specs.model_device.specs.Image.{One}
use Rattle.model_play.specs.model_device.specs.Stopped.{stands}
use Rattle.model_play.specs.model_device.specs.PowerUp.{Base, OnCard, AtFault, base_after_migration}
use Rattle.model_play.specs.model_card.specs.Items.{StopAt}
use Rattle.model_play.specs.DeckGrammar as line
use Rattle.model_play.specs.Play.{Armed, Unarmed, ArmedCut, Live, Warm, State, AfterPower, step, hit_of, power_moves, power_live, power_after, stopped_power}
use Rattle.law_explore.specs.States.{CardState, state_in}
use Rattle.law_explore.specs.Tries.{next}
use Rattle.law_explore.specs.Safety.{after_cuts, RecoveryLaw}

-- ---- states of equal parts

-- a state of its parts
abbrev pub state_by : Base → Live → ℕ → List (List ℕ × ℕ) → CardState
state_by b v g a = record { base = b; live = v; budget = g; allowances = a }

-- states of equal parts are equal
pub states_equal : (a : List (List ℕ × ℕ)) (b c : Base) (v w : Live) (g h : ℕ) → b ≡ c → v ≡ w → g ≡ h → state_by b v g a ≡ state_by c w h a
states_equal a b c v w g h x y z =
    ap (λ (e : Base). state_by e v g a) x ∙ ap (λ (e : Live). state_by c e g a) y ∙ ap (λ (e : ℕ). state_by c w e a) z

-- ---- power lines

-- both are brought to one card by a whole power line, and no stop is armed
pub record Heals (s t : Warm) : Type 0 where
  pub base : base_after_migration s.base ≡ base_after_migration t.base
  pub live : power_live s.base ≡ power_live t.base
  pub budget : s.budget ≡ t.budget
  pub unarmed : s.armed ≡ Unarmed

migrated_twice : (b : Base) → base_after_migration (base_after_migration b) ≡ base_after_migration b
migrated_twice (OnCard c) = refl
migrated_twice (AtFault cause place) = refl

live_migrated : (b : Base) → power_live (base_after_migration b) ≡ power_live b
live_migrated (OnCard c) = refl
live_migrated (AtFault cause place) = refl

cond_base : (t : Bool) (b : Base) → base_after_migration (cond t (base_after_migration b) b) ≡ base_after_migration b
cond_base true b = migrated_twice b
cond_base false b = refl

cond_live : (t : Bool) (b : Base) → power_live (cond t (base_after_migration b) b) ≡ power_live b
cond_live true b = live_migrated b
cond_live false b = refl

stopped_heals : (s : Warm) (t : StopAt) (b : Bool) → Heals (stopped_power s t b) s
stopped_heals s t true = record { base = refl; live = refl; budget = refl; unarmed = refl }
stopped_heals s t false =
    record {
      base = cond_base (stands One 1 (t.at - s.owed) t.left) s.base;
      live = cond_live (stands One 1 (t.at - s.owed) t.left) s.base;
      budget = refl;
      unarmed = refl;
    }

power_heals : (s : Warm) (t : Option StopAt) → Heals (power_after s t) s
power_heals s None = record { base = migrated_twice s.base; live = live_migrated s.base; budget = refl; unarmed = refl }
power_heals s (Some t) = stopped_heals s t (nat_le t.at s.owed)

joined : (s t u : Warm) → Heals s t → Heals t u → Heals s u
joined s t u g h = record { base = g.base ∙ h.base; live = g.live ∙ h.live; budget = g.budget ∙ h.budget; unarmed = g.unarmed }

-- a power line that is cut, or whole
abbrev cut_once : Warm → ℕ → List ℕ → Warm
cut_once s k x = power_after (record s { armed = ArmedCut k x }) (hit_of (ArmedCut k x) (power_moves s) None)

cut_power : (n k : ℕ) (x : List ℕ) (s : Warm) → next (next (AfterPower s) (n, line.Cut k x)) (n, line.Power) ≡ AfterPower (cut_once s k x)
unfolding step
cut_power n k x s = refl

-- a power line without a stop leaves what is after its power
pub whole_power : (n : ℕ) (s : Warm) → s.armed ≡ Unarmed → next (AfterPower s) (n, line.Power) ≡ AfterPower (power_after s None)
unfolding step
whole_power n s e = ap (λ (a : Armed). AfterPower (power_after s (hit_of a (power_moves s) None))) e

-- ---- several of them

-- several cuts in power lines lead to a state that one whole power line heals
pub record CutTo (n : ℕ) (cs : List (ℕ × List ℕ)) (s : Warm) : Type 0 where
  pub warm : Warm
  pub is : after_cuts n cs (AfterPower s) ≡ AfterPower warm
  pub heals : Heals warm s

once_heals : (s : Warm) (k : ℕ) (x : List ℕ) → Heals (cut_once s k x) s
once_heals s k x = grind (arith, power_heals (record s { armed = ArmedCut k x }) (hit_of (ArmedCut k x) (power_moves s) None))

-- after any cuts a whole power line leads where it does without them
pub cuts_heal : (n : ℕ) (cs : List (ℕ × List ℕ)) (s : Warm) → s.armed ≡ Unarmed → CutTo n cs s
unfolding after_cuts
cuts_heal n [] s e = record { warm = s; is = refl; heals = record { base = refl; live = refl; budget = refl; unarmed = e } }
cuts_heal n (c ∷ cs) s e =
    let once = once_heals s c.0 c.1 in
    let rest = cuts_heal n cs (cut_once s c.0 c.1) once.unarmed in
    record {
      warm = rest.warm;
      is = ap (λ (t : State). after_cuts n cs t) (cut_power n c.0 c.1 s) ∙ rest.is;
      heals = joined rest.warm (cut_once s c.0 c.1) s rest.heals once;
    }

-- the state after a whole power line
pub healed : (i : ℕ) (s t : Warm) (a : List (List ℕ × ℕ)) → Heals s t → t.armed ≡ Unarmed → state_in (next (AfterPower s) (i, line.Power)) a ≡ state_in (next (AfterPower t) (i, line.Power)) a
healed i s t a h e = grind (arith, whole_power, states_equal)

-- cuts in power lines lead to no other state once a power line is whole
pub recovery_law : RecoveryLaw
recovery_law n i cs s a e =
    let c = cuts_heal n cs s e in
    ap (λ (z : State). state_in (next z (i, line.Power)) a) c.is ∙ healed i c.warm s a c.heals e
