-- A player that is put back: a budget line and a power line on words that show a state, and what was saved.
use Rattle.std.proofs.Common.{◌≡◌, ap, sym, subst, ◌∙◌, refl}
use Rattle.std.specs.Prelude.{ℕ, true, List, Option}
use Rattle.law_explore_text.specs.model_device.specs.Device.{DeviceState, BenchState}
use Rattle.law_explore_text.specs.model_device.specs.Image.{Two, Journal}
use Rattle.law_explore_text.specs.model_device.specs.PowerUp.{Base}
use Rattle.law_explore_text.specs.model_play.specs.DeckGrammar as line
use Rattle.law_explore_text.specs.model_play.specs.Play as play
use Rattle.law_explore_text.specs.model_play.specs.Play.{Armed, Unarmed, Warm, State, BeforePower, AfterPower, start, step, Running, Unpowered, Muted}
use Rattle.law_explore_text.specs.model_play.specs.Family.{is_running}
use Rattle.mc_script.specs.declared.answer.Answer.{Answer}
use Rattle.mc_script.specs.declared.live.Live.{Live}
use Rattle.mc_script.specs.declared.live.Live.TheVariants as live
use Rattle.mc_script.specs.declared.player.Player.{Player}
use Rattle.mc_script.specs.Players.{device_of, IsPlayerAt}
use Rattle.mc_script.specs.Lives.{LiveShows, FitsLive}
use Rattle.lab_search.specs.Playing.{PlaysAs}
use Rattle.lab_key.specs.Shown.{IsShown}
use Rattle.lab_search.specs.Shown.{settled_play}
use Rattle.lab_search.proofs.RestoreLemmas.{IsRestored, restored, runs_again}

-- what is shown fits the words
pub fits_shown : (m : List (List ℕ)) (v : Live) (l : play.Live) → LiveShows m v l → FitsLive m v
fits_shown m live.Unpowered l h = tt
fits_shown m live.Muted l h = tt
fits_shown m (live.Running s) l h = h.fits

module _ {N : Type 0} (state : N → DeviceState) (bench : N → BenchState) where
  -- a play of which nothing is owed is held by either journal
  owed_none : (p : Player N) (b : Base) (o : ℕ) (j : Journal) (l : play.Live) (g : ℕ) (a : Armed) → o ≡ 0
      → IsPlayerAt state bench p (AfterPower (record { base = b; owed = o; by = j; live = l; budget = g; armed = a }))
      → IsPlayerAt state bench p (AfterPower (record { base = b; owed = 0; by = Two; live = l; budget = g; armed = a }))
  owed_none p b o j l g a none at =
      record {
        stands = (at.stands.0, record { base = at.stands.1.base; owed = at.stands.1.owed ∙ none; by = λ some. absurd (some refl) });
        budget = at.budget;
        armed = at.armed;
        some = at.some;
        most = at.most;
        can_arm = at.can_arm;
        unfused = at.unfused;
      }

  -- a player at a play by the parts of it
  pub settled_at : (p : Player N) (w : Warm) (b : Base) (l : play.Live) (g : ℕ) → w.base ≡ b → w.owed ≡ 0 → w.live ≡ l → w.budget ≡ g → w.armed ≡ Unarmed → IsPlayerAt state bench p (AfterPower w)
      → IsPlayerAt state bench p (AfterPower (settled_play b l g))
  settled_at p w b l g eb eo el eg ea at =
      let one = owed_none p w.base w.owed w.by w.live w.budget w.armed eo at in
      let At : Base → play.Live → ℕ → Armed → Type 0 = λ x y z u. IsPlayerAt state bench p (AfterPower (record { base = x; owed = 0; by = Two; live = y; budget = z; armed = u })) in
      subst (λ (x : Base). At x l g Unarmed) eb (subst (λ (y : play.Live). At w.base y g Unarmed) el (subst (λ (z : ℕ). At w.base w.live z Unarmed) eg (subst (λ (u : Armed). At w.base w.live w.budget u) ea one)))

  -- the budget line, and the power line
  pub record Powered (m : List (List ℕ)) (q : Player N) (b : Base) (g : ℕ) : Type 0 where
    pub restored : IsRestored m g 0 b
    pub at : IsPlayerAt state bench q (AfterPower restored.warm)
    pub words : (state (device_of q)).words ≡ m
    pub steady : (bench (device_of q)).steady ≡ true

  -- a budget line on words sets the budget before the first power line
  pub budget_set : (p q : Player N) (m : List (List ℕ)) (g : ℕ) (a : Option Answer) → IsPlayerAt state bench p (start m) → (bench (device_of p)).steady ≡ true → PlaysAs state bench p (line.Budget g) a q
      → IsPlayerAt state bench q (BeforePower m g Unarmed) × ((bench (device_of q)).steady ≡ true)
  unfolding step
  budget_set p q m g a at steady plays =
      let d = plays (start m) 0 at steady tt in
      (d.at, d.steady)

  -- a power line after it finds what was saved
  pub powered : (p q r : Player N) (m : List (List ℕ)) (g : ℕ) (a b : Option Answer) (base : Base) (l : play.Live) (v : Live) → IsPlayerAt state bench p (start m) → (bench (device_of p)).steady ≡ true
      → PlaysAs state bench p (line.Budget g) a q → PlaysAs state bench q line.Power b r → IsShown m v base l → Powered m r base g
  powered p q r m g a b base l v at steady first second shown =
      let set = budget_set p q m g a at steady first in
      let d = second (BeforePower m g Unarmed) 0 set.0 set.1 tt in
      let is = restored m g 0 base l shown.holds shown.base in
      record {
        restored = is;
        at = subst (λ (s : State). IsPlayerAt state bench r s) is.is d.at;
        words = d.words is.warm is.is is.moves ∙ set.0.stands.1;
        steady = d.steady;
      }

  -- what was saved fits the words that the power line left
  pub powered_fits : (r : Player N) (m : List (List ℕ)) (g : ℕ) (base : Base) (l : play.Live) (v : Live) → Powered m r base g → IsShown m v base l → FitsLive (state (device_of r)).words v
  powered_fits r m g base l v h shown = subst (λ (n : List (List ℕ)). FitsLive n v) (sym h.words) (fits_shown m v l shown.live)

  -- and put back it is the state
  pub put_back : (r t : Player N) (m : List (List ℕ)) (g : ℕ) (base : Base) (l : play.Live) (v : Live) → Powered m r base g → IsShown m v base l
      → ((s : Warm) (k : play.Live) → IsPlayerAt state bench r (AfterPower s) → LiveShows (state (device_of r)).words v k → is_running s.live ≡ is_running k → IsPlayerAt state bench t (AfterPower (record s { live = k })))
      → IsPlayerAt state bench t (AfterPower (settled_play base l g))
  put_back r t m g base l v h shown puts =
      let w = h.restored.warm in
      let at = puts w l h.at (subst (λ (n : List (List ℕ)). LiveShows n v l) (sym h.words) shown.live) (ap (λ (k : play.Live). is_running k) h.restored.live ∙ runs_again l base shown.base) in
      settled_at t (record w { live = l }) base l g h.restored.base h.restored.owed refl h.restored.budget h.restored.unarmed at
