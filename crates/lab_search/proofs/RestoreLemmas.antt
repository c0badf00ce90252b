-- The power line that finds the words of a state that was kept.
use Rattle.std.specs.Prelude.{◌≡◌, ℕ, cond, ◌==◌, List, None, refl}
use Rattle.std.proofs.Common.{arith, ap, sym, ◌∙◌}
use Rattle.law_explore_text.specs.model_device.specs.Image.{Two}
use Rattle.law_explore_text.specs.model_device.specs.PowerUp.{Base, OnCard, AtFault, migration, base_after_migration}
use Rattle.law_explore_text.specs.model_play.specs.DeckGrammar as line
use Rattle.law_explore_text.specs.model_play.specs.Play.{Unarmed, Live, Running, Unpowered, Muted, Warm, BeforePower, AfterPower, step, play_at_power, power_after, power_live}
use Rattle.law_explore_text.specs.model_play.specs.Family.{is_running}
use Rattle.mc_store.specs.Power.{HoldsBase, base_of_words}
use Rattle.lab_key.specs.Shown.{IsKeptBase}

migrated_not : (l : Live) (b : Base) → IsKeptBase l b → base_after_migration b ≡ b
migrated_not (Running session_state) (OnCard c) h = ap (λ (i : ℕ). OnCard (record c { layout = i })) (sym h)
migrated_not (Running session_state) (AtFault cause place) h = refl
migrated_not Unpowered (OnCard c) h = absurd h
migrated_not Unpowered (AtFault cause place) h = refl
migrated_not Muted (OnCard c) h = absurd h
migrated_not Muted (AtFault cause place) h = refl

no_migration : (l : Live) (b : Base) → IsKeptBase l b → migration b ≡ 0
no_migration (Running session_state) (OnCard c) h = ap (λ (i : ℕ). cond (i == 1) 6 0) h
no_migration (Running session_state) (AtFault cause place) h = refl
no_migration Unpowered (OnCard c) h = absurd h
no_migration Unpowered (AtFault cause place) h = refl
no_migration Muted (OnCard c) h = absurd h
no_migration Muted (AtFault cause place) h = refl

-- a card runs after the power line exactly if one ran
pub runs_again : (l : Live) (b : Base) → IsKeptBase l b → is_running (power_live b) ≡ is_running l
runs_again (Running session_state) (OnCard c) h = refl
runs_again (Running session_state) (AtFault cause place) h = absurd h
runs_again Unpowered (OnCard c) h = absurd h
runs_again Unpowered (AtFault cause place) h = refl
runs_again Muted (OnCard c) h = absurd h
runs_again Muted (AtFault cause place) h = refl

-- the power line makes no write, and finds the base
pub record IsRestored (m : List (List ℕ)) (g n : ℕ) (b : Base) : Type 0 where
  pub moves : (step (BeforePower m g Unarmed) (n, line.Power) None).moves ≡ 0
  pub warm : Warm
  pub is : (step (BeforePower m g Unarmed) (n, line.Power) None).after ≡ AfterPower warm
  pub base : warm.base ≡ b
  pub owed : warm.owed ≡ 0
  pub live : warm.live ≡ power_live b
  pub budget : warm.budget ≡ g
  pub unarmed : warm.armed ≡ Unarmed

-- words that hold a base which is kept are found by a power line without a write
pub restored : (m : List (List ℕ)) (g n : ℕ) (b : Base) (l : Live) → HoldsBase b 0 Two m → IsKeptBase l b → IsRestored m g n b
unfolding step play_at_power
restored m g n b l holds kept =
    let none : migration (base_of_words m) ≡ 0 = ap (λ (e : Base). migration e) holds.base ∙ no_migration l b kept in
    let owed = holds.owed in
    record {
      moves = omega (arith, none, owed);
      warm = power_after (play_at_power m g Unarmed) None;
      is = refl;
      base = ap (λ (e : Base). base_after_migration e) holds.base ∙ migrated_not l b kept;
      owed = refl;
      live = ap (λ (e : Base). power_live e) holds.base;
      budget = refl;
      unarmed = refl;
    }
