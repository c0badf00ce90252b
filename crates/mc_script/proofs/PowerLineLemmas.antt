-- Power lines: what the first one finds, and how each ends.
use Rattle.std.proofs.Common.{◌≡◌, ◌≢◌, ℕ, ◌+◌, ◌<◌, ◌≤◌, Bool, true, false, List, [], length, Option, Some, None, Ok, refl, sym, ◌∙◌, ap, subst, arith}
use Rattle.std.specs.Prelude.{nat_le}
use Rattle.std.proofs.lemmas.Bool.{leb-true, leb-false}
use Rattle.model_play.specs.model_device.specs.declared.cause.Cause.{Cause}
use Rattle.model_play.specs.model_device.specs.declared.device.Stop.{Stop}
use Rattle.model_play.specs.model_device.specs.declared.device.Stop.TheVariants.{Off, Worn}
use Rattle.model_play.specs.model_device.specs.Orders.{Answer as Ended}
use Rattle.model_play.specs.model_device.specs.Device.{DeviceState, BenchState, Wrote, BenchWrote, IsImage, Makes}
use Rattle.model_play.specs.DeckGrammar as line
use Rattle.model_play.specs.model_device.specs.Image.{One, Which, Only, which, count_of_recovery_writes, look_at, debt}
use Rattle.model_play.specs.model_device.specs.Stopped.{image_after_stop, stands}
use Rattle.model_play.specs.model_device.specs.Card.{Card as CardValue, means}
use Rattle.model_play.specs.model_device.specs.Layout.{fault}
use Rattle.model_play.specs.model_card.specs.Items.{StopAt}
use Rattle.model_play.specs.model_card.specs.Manager.{empty_session_state}
use Rattle.model_play.specs.Given.{budget_in}
use Rattle.model_play.specs.TraceText.{shown_turns}
use Rattle.model_play.specs.Play as play
use Rattle.model_play.specs.Play.{Unarmed, Live, Running, Warm, State, BeforePower, AfterPower, Ready, FailedWrite, Step, step, play_at_power, power_moves, power_result, power_live, power_after, power_says, power_step, stopped_power, live_after, result_of_stop, hit_of, failure_entry, moves_of, armed_stop_in, StandsForState, state_after_stop}
use Rattle.model_play.specs.model_device.specs.PowerUp.{Base, OnCard, AtFault, pending_journal, base_of, base_after_migration, migration}
use Rattle.mc_store.specs.Power.{base_of_words, power_writes, power_count, HoldsBase, IsPowered, IsUnusable, IsHalted}
use Rattle.mc_store.proofs.PowerLemmas.{count_writes, power_halted}
use Rattle.mc_card.specs.declared.card.Card.{Card}
use Rattle.mc_card.specs.Parts.{device_in, card_in, session_state_in, IsReadyCard}
use Rattle.mc_blocks.specs.declared.image.Unusable.{Unusable}
use Rattle.mc_script.specs.declared.answer.Answer.{Answer}
use Rattle.mc_script.specs.declared.answer.Answer.TheVariants as answer
use Rattle.mc_script.specs.declared.armed.Armed.{Armed}
use Rattle.mc_script.specs.declared.armed.Armed.TheVariants as armed
use Rattle.mc_script.specs.declared.player.Power.TheVariants as power
use Rattle.mc_script.specs.declared.player.Player.{Player}
use Rattle.mc_script.specs.Players.{answer_value, armed_value, cut_place, device_of, CanArm, LiveIs, StateIs, IsPlayerAt}
use Rattle.mc_script.specs.Arming.{power_after_stop, answer_after_stop}
use Rattle.mc_script.specs.Lines.{Stepped, SilentLine}
use Rattle.mc_script.specs.Runs.{StoppedAtWrite}
use Rattle.mc_script.proofs.AccountLemmas.{base_card, stands_after_power, StopsStand}
use Rattle.mc_script.proofs.HitLemmas.{HitBy}
use Rattle.mc_script.proofs.TriedLemmas.{Handed, Freed, Worth, Went, went, went_stepped, Hit, hit, hit_stepped}

-- ---- the play of a power line

-- the play that a power line finds
pub warm_of : State → Warm
warm_of (BeforePower m b a) = play_at_power m b a
warm_of (AfterPower w) = w

power_is : (s : State) (n : ℕ) (x : Option FailedWrite) → step s (n, line.Power) x ≡ power_step n s (warm_of s) (hit_of (armed_stop_in s) (power_moves (warm_of s)) x)
unfolding step warm_of
power_is (BeforePower m b a) n x = refl
power_is (AfterPower w) n x = refl

moves_power : (s : State) (n : ℕ) → moves_of s (n, line.Power) ≡ power_moves (warm_of s)
unfolding step moves_of warm_of
moves_power (BeforePower m b a) n = omega arith
moves_power (AfterPower w) n = omega arith

worth : (s : State) → Worth s line.Power 1
worth (BeforePower m b a) = record { card = refl; powers = refl; pokes = refl; cuts = refl; fails = refl }
worth (AfterPower w) = record { card = refl; powers = refl; pokes = refl; cuts = refl; fails = refl }

warm_budget : (s : State) → (warm_of s).budget ≡ budget_in s
unfolding warm_of play_at_power
warm_budget (BeforePower m b a) = refl
warm_budget (AfterPower w) = refl

-- if recovery still has to make writes, they are those of the pending journal alone
only_owing : (m : List (List ℕ)) (i : Which) → debt (look_at m i) ≢ 0 → i ≡ Only (pending_journal i)
only_owing m i h = grind arith

warmed_base : (m : List (List ℕ)) (b : ℕ) (a : play.Armed) (words : List (List ℕ)) → words ≡ m → let w = play_at_power m b a in HoldsBase w.base w.owed w.by words
unfolding play_at_power
warmed_base m b a words same =
    subst (λ (x : List (List ℕ)). HoldsBase (base_of (fault m) m) (count_of_recovery_writes m) (pending_journal (which m)) x) (sym same) (record { base = refl; owed = refl; by = λ some. only_owing m (which m) some })

-- ---- stops of a power line

count_is : (m : List (List ℕ)) (w : Warm) → HoldsBase w.base w.owed w.by m → power_count m ≡ power_moves w
count_is m w r = ap (λ (x : ℕ). x + migration (base_of_words m)) r.owed ∙ ap (λ (b : Base). w.owed + migration b) r.base

-- the play after a stop of a power line
record AfterStop (w : Warm) (t : StopAt) (v : Warm) : Type 0 where
  armed : v.armed ≡ Unarmed
  budget : v.budget ≡ w.budget
  live : v.live ≡ live_after t.kind

after_stop : (w : Warm) (t : StopAt) (b : Bool) → AfterStop w t (stopped_power w t b)
after_stop w t true = record { armed = refl; budget = refl; live = refl }
after_stop w t false = record { armed = refl; budget = refl; live = refl }

halted_by : (m : List (List ℕ)) (w : Warm) (t : StopAt) (n : List (List ℕ)) (b : Bool) → HoldsBase w.base w.owed w.by m → 1 ≤ t.at → IsHalted m t.at t.left n → nat_le t.at w.owed ≡ b
    → let v = stopped_power w t b in HoldsBase v.base v.owed v.by n
halted_by m w t n b r low h is = grind (arith, leb-true, leb-false)

halted_base : (m : List (List ℕ)) (w : Warm) (t : StopAt) (n : List (List ℕ)) → HoldsBase w.base w.owed w.by m → 1 ≤ t.at → IsHalted m t.at t.left n → let v = power_after w (Some t) in HoldsBase v.base v.owed v.by n
halted_base m w t n r low h = halted_by m w t n (nat_le t.at w.owed) r low h refl

-- wherever a write of a power line stops, the words hold the state of the play
power_stands : (m : List (List ℕ)) (s : State) (n : ℕ) → IsImage m → let w = warm_of s in HoldsBase w.base w.owed w.by m → StopsStand m s (n, line.Power) 0 (power_writes m)
power_stands m s n image r k x low high size =
    let w = warm_of s in
    let t : StopAt = record { kind = Worn; at = k; left = x } in
    let many : length (power_writes m) ≡ power_count m = count_writes m image.low image.high in
    let halted : IsHalted m k x (image_after_stop m (power_writes m) k x) = power_halted m image.low image.high k x low (omega (arith, high, many)) in
    let b = halted_base m w t (image_after_stop m (power_writes m) k x) r low halted in
    let here : StandsForState (image_after_stop m (power_writes m) k x) (AfterPower (power_after w (Some t))) = stands_after_power (image_after_stop m (power_writes m) k x) (power_after w (Some t)) b in
    let zero_on : 0 + k ≡ k = omega arith in
    subst (λ (i : ℕ). StandsForState (image_after_stop m (power_writes m) k x) (state_after_stop s (n, line.Power) i x)) (sym zero_on)
    (subst (λ (u : Step). StandsForState (image_after_stop m (power_writes m) k x) u.after) (sym (power_is s n (Some (record { at = k; left = x })))) here)

module _ {N : Type 0} (state : N → DeviceState) (bench : N → BenchState) (wrote : N → ℕ → List ℕ → Ended → N → Type 0)
    (obeys : (d : N) (at : ℕ) (w : List ℕ) (a : Ended) (e : N) → (state d).on ≡ true → wrote d at w a e → Wrote (state d) at w a (state e))
    (burns : (d : N) (at : ℕ) (w : List ℕ) (a : Ended) (e : N) → (state d).on ≡ true → wrote d at w a e → BenchWrote (state d) (bench d) at a (state e) (bench e))
    (fits : (d : N) (at : ℕ) (w : List ℕ) (a : Ended) (e : N) → wrote d at w a e → (at < length (state d).words) × (length w ≡ 8)) where
  -- the words of a player are those of the play that a power line finds
  base_at : (p : Player N) (s : State) → IsPlayerAt state bench p s → let w = warm_of s in HoldsBase w.base w.owed w.by (state (device_of p)).words
  unfolding warm_of
  base_at p (BeforePower m b a) at = warmed_base m b a (state (device_of p)).words at.stands.1
  base_at p (AfterPower w) at = at.stands.1

  -- the step of a power line is silent
  silently : (p q : Player N) (s : State) (n : ℕ) (x : Option FailedWrite) (t : Option StopAt) (r : Option Answer) → hit_of (armed_stop_in s) (power_moves (warm_of s)) x ≡ t
      → Stepped state bench p s (n, line.Power) x (power_step n s (warm_of s) t) r q → shown_turns [] t ≡ [] → SilentLine state bench p s (n, line.Power) x r q
  silently p q s n x t r hits stepped none = grind (arith, warm_of, power_is)

  -- ---- a power line without a stop

  no_stop : (p q : Player N) (s : State) (n : ℕ) (u e : N) (r : Answer) → IsPlayerAt state bench p s → IsImage (state (device_of p)).words
      → Handed (state (device_of p)) (bench (device_of p)) 1 p.armed (state u) (bench u) → Makes wrote u (power_writes (state u).words) (Ok tt) e
      → Freed (state e) (bench e) (state (device_of q)) (bench (device_of q)) → q.budget ≡ p.budget → q.armed ≡ armed.Not
      → (let w = warm_of s in StateIs state q.power q.card (AfterPower (power_after w None))) → answer_value state q r ≡ power_result (power_moves (warm_of s)) (warm_of s).base
      → (x : Option FailedWrite) × SilentLine state bench p s (n, line.Power) x (Some r) q
  no_stop p q s n u e r at image handed made freed budget free stands answers =
      let w = warm_of s in
      let d = device_of p in
      let m = (state d).words in
      let made_on : Makes wrote u (power_writes m) (Ok tt) e = subst (λ (y : List (List ℕ)). Makes wrote u (power_writes y) (Ok tt) e) handed.words made in
      let did : Went state bench wrote obeys burns fits d (device_of q) p.armed 1 (power_writes m) = went state bench wrote obeys burns fits d u e (device_of q) p.armed 1 (power_writes m) at.can_arm handed made_on freed in
      let base : HoldsBase w.base w.owed w.by m = base_at p s at in
      let many : length (power_writes m) ≡ power_moves w = count_writes m image.low image.high ∙ count_is m w base in
      let misses : hit_of (armed_stop_in s) (power_moves w) None ≡ None =
      subst (λ (i : ℕ). hit_of (armed_stop_in s) i None ≡ None) many (subst (λ (y : play.Armed). hit_of y (length (power_writes m)) None ≡ None) at.armed did.missed.hit) in
      let then : IsPlayerAt state bench q (AfterPower (power_after w None)) = record {
        stands = stands;
        budget = budget ∙ at.budget ∙ sym (warm_budget s);
        armed = ap armed_value free;
        some = subst (λ (i : ℕ). 1 ≤ i) (sym budget) at.some;
        most = subst (λ (i : ℕ). i ≤ 65536) (sym budget) at.most;
        can_arm = subst (λ (y : Armed). CanArm y) (sym free) tt;
        unfused = did.unfused;
      } in
      let stepped = went_stepped state bench wrote obeys burns fits p q s n 1 line.Power (power_result (power_moves w) w.base) [] [] [] [] (power_after w None) r (power_writes m) (power_moves w) at (worth s) refl refl did many (moves_power s n) then answers
      (power_stands m s n image base) in
      (None, silently p q s n None None (Some r) misses stepped refl)

  -- the found card, migrated, is the card that runs
  card_on : (m e : List (List ℕ)) (w : Warm) → base_of_words m ≡ w.base → fault m ≡ None → base_of_words e ≡ base_after_migration (base_of_words m) → (base_after_migration w.base ≡ OnCard (means e)) × (power_live w.base ≡ Running empty_session_state) × ((n : ℕ) → Ready n ≡ power_result n w.base)
  card_on m e w is sound then =
      let card : base_of_words m ≡ OnCard (means m) = ap (λ (f : Option (Cause × ℕ)). base_of f m) sound in
      let base : w.base ≡ OnCard (means m) = sym is ∙ card in
      let new : CardValue = record (means m) { layout = 2 } in
      let upgraded : base_of_words e ≡ OnCard new = then ∙ ap base_after_migration card in (
        ap base_after_migration base ∙ ap OnCard (sym (base_card (fault e) e new upgraded).1),
        ap power_live base,
        λ n. sym (ap (λ (b : Base). power_result n b) base),
      )

  -- a card runs after it
  pub runs_done : (p : Player N) (s : State) (n : ℕ) (u e : N) (c : Card N) (number count : ℕ) → IsPlayerAt state bench p s → IsImage (state (device_of p)).words
      → Handed (state (device_of p)) (bench (device_of p)) 1 p.armed (state u) (bench u) → Makes wrote u (power_writes (state u).words) (Ok tt) e → IsPowered (state u) number count (state e)
      → Freed (state e) (bench e) (state (device_in c)) (bench (device_in c)) → IsReadyCard state c → session_state_in state c ≡ empty_session_state
      → (x : Option FailedWrite) × SilentLine state bench p s (n, line.Power) x (Some (answer.Ready number)) (record p { card = c; power = power.On; armed = armed.Not })
  runs_done p s n u e c number count at image handed made powered freed ready session_state =
      let w = warm_of s in
      let m = (state (device_of p)).words in
      let q : Player N = record p { card = c; power = power.On; armed = armed.Not } in
      let base : HoldsBase w.base w.owed w.by m = base_at p s at in
      let same : (state u).words ≡ m = handed.words in
      let after : (state (device_in c)).words ≡ (state e).words = ap (λ (x : DeviceState). x.words) freed.state in
      let left : HoldsBase (base_after_migration (base_of_words (state u).words)) 0 One (state e).words = powered.base in
      let on = card_on (state u).words (state e).words w (ap base_of_words same ∙ base.base) powered.card left.base in
      let words : List (List ℕ) = (state (device_in c)).words in
      let is : HoldsBase (base_after_migration w.base) 0 w.by words = record {
        base = ap base_of_words after ∙ left.base ∙ ap base_after_migration (ap base_of_words same ∙ base.base);
        owed = ap count_of_recovery_writes after ∙ left.owed;
        by = λ some. absurd (some refl);
      } in
      let live : power_live w.base ≡ Running (session_state_in state c) = on.1 ∙ ap Running (sym session_state) in
      let card : base_after_migration w.base ≡ OnCard (card_in state c) = on.0 ∙ ap (λ (x : List (List ℕ)). OnCard (means x)) (sym after) in
      let many : number ≡ power_moves w = powered.number ∙ ap power_count same ∙ count_is m w base in
      no_stop p q s n u e (answer.Ready number) at image handed made freed refl refl (record { ready = ready; base = card; live = live }, is) (ap Ready many ∙ on.2 (power_moves w))

  -- the words are no card
  pub unusable_done : (p : Player N) (s : State) (n : ℕ) (u e : N) (c : Card N) (r : Unusable) → IsPlayerAt state bench p s → IsImage (state (device_of p)).words
      → Handed (state (device_of p)) (bench (device_of p)) 1 p.armed (state u) (bench u) → Makes wrote u (power_writes (state u).words) (Ok tt) e → IsUnusable (state u) r.cause r.place (state e)
      → Freed (state e) (bench e) (state (device_in c)) (bench (device_in c))
      → (x : Option FailedWrite) × SilentLine state bench p s (n, line.Power) x (Some (answer.Unusable r)) (record p { card = c; power = power.Off; armed = armed.Not })
  unusable_done p s n u e c r at image handed made unusable freed =
      let w = warm_of s in
      let m = (state (device_of p)).words in
      let f = device_in c in
      let q : Player N = record p { card = c; power = power.Off; armed = armed.Not } in
      let base : HoldsBase w.base w.owed w.by m = base_at p s at in
      let same : (state u).words ≡ m = handed.words in
      let after : (state f).words ≡ (state e).words = ap (λ (x : DeviceState). x.words) freed.state in
      let left : HoldsBase (base_of_words (state u).words) 0 One (state e).words = unusable.base in
      let broken : w.base ≡ AtFault r.cause r.place = sym (ap base_of_words same ∙ base.base) ∙ ap (λ (x : Option (Cause × ℕ)). base_of x (state u).words) unusable.fault in
      let is : HoldsBase (base_after_migration w.base) 0 w.by (state f).words = record {
        base = ap base_of_words after ∙ left.base ∙ ap base_of_words same ∙ base.base ∙ broken ∙ ap base_after_migration (sym broken);
        owed = ap count_of_recovery_writes after ∙ left.owed;
        by = λ some. absurd (some refl);
      } in
      no_stop p q s n u e (answer.Unusable r) at image handed made freed refl refl (ap power_live broken, is) (ap (λ (b : Base). power_result (power_moves w) b) (sym broken))

  -- ---- a power line that a stop hit

  pub live_stopped : (how : Stop) (c : Card N) (base : Base) (l : Live) → l ≡ live_after how → LiveIs state (power_after_stop how) c base l
  live_stopped Off c base l h = h
  live_stopped Worn c base l h = h

  pub answer_stopped : (how : Stop) (p q : Player N) (t : StopAt) → t.kind ≡ how → (how ≡ Off → cut_place p.armed ≡ t.at) → answer_value state q (answer_after_stop how p.armed) ≡ result_of_stop t t.kind
  answer_stopped Off p q t is place = ap play.OffAt (place refl) ∙ ap (λ (y : Stop). result_of_stop t y) (sym is)
  answer_stopped Worn p q t is place = ap (λ (y : Stop). result_of_stop t y) (sym is)

  pub stop_done : (p : Player N) (s : State) (n : ℕ) (u e : N) (c : Card N) (k : ℕ) (how : Stop) → IsPlayerAt state bench p s → IsImage (state (device_of p)).words
      → Handed (state (device_of p)) (bench (device_of p)) 1 p.armed (state u) (bench u) → StoppedAtWrite wrote u (power_writes (state u).words) k how e → Freed (state e) (bench e) (state (device_in c)) (bench (device_in c))
      → (x : Option FailedWrite) × SilentLine state bench p s (n, line.Power) x (Some (answer_after_stop how p.armed)) (record p { card = c; power = power_after_stop how; armed = armed.Not })
  stop_done p s n u e c k how at image handed stop freed =
      let w = warm_of s in
      let d = device_of p in
      let m = (state d).words in
      let f = device_in c in
      let q : Player N = record p { card = c; power = power_after_stop how; armed = armed.Not } in
      let stop_on : StoppedAtWrite wrote u (power_writes m) k how e = subst (λ (y : List (List ℕ)). StoppedAtWrite wrote u (power_writes y) k how e) handed.words stop in
      let found_stop = hit state bench wrote obeys burns fits d u e f p.armed 1 (power_writes m) k how at.can_arm at.unfused handed stop_on freed in
      let x : List ℕ = found_stop.0 in
      let did : Hit state bench wrote obeys burns fits d f p.armed 1 (power_writes m) k how x = found_stop.1 in
      let t : StopAt = record { kind = how; at = k; left = x } in
      let base : HoldsBase w.base w.owed w.by m = base_at p s at in
      let many : length (power_writes m) ≡ power_moves w = count_writes m image.low image.high ∙ count_is m w base in
      let high : k ≤ power_moves w = let h = did.high in omega (arith, h, many) in
      let by : HitBy (armed_stop_in s) (power_moves w) (bench d).steady how k x (failure_entry k x (Some how)) =
      subst (λ (y : play.Armed). HitBy y (power_moves w) (bench d).steady how k x (failure_entry k x (Some how))) at.armed (did.by (power_moves w) high) in
      let v : Warm = power_after w (Some t) in
      let then : AfterStop w t v = after_stop w t (nat_le k w.owed) in
      let count : length (power_writes m) ≡ power_count m = count_writes m image.low image.high in
      let halted : IsHalted m k x (image_after_stop m (power_writes m) k x) = power_halted m image.low image.high k x did.low (let h = did.high in omega (arith, h, count)) in
      let torn_base : HoldsBase v.base v.owed v.by (image_after_stop m (power_writes m) k x) = halted_base m w t (image_after_stop m (power_writes m) k x) base did.low halted in
      let is : HoldsBase v.base v.owed v.by (state f).words = subst (λ (y : List (List ℕ)). HoldsBase v.base v.owed v.by y) (sym did.words) torn_base in
      let at_end : IsPlayerAt state bench q (AfterPower v) = record {
        stands = (live_stopped how c v.base v.live then.live, is);
        budget = at.budget ∙ sym (warm_budget s) ∙ sym then.budget;
        armed = sym then.armed;
        some = at.some;
        most = at.most;
        can_arm = tt;
        unfused = did.unfused;
      } in
      let stepped = hit_stepped state bench wrote obeys burns fits p q s n 1 line.Power (power_says w (Some t)) [] [] [] [] v (answer_after_stop how p.armed) (power_writes m) (power_moves w) k how x at (worth s) then.armed did
      (omega (arith, many)) (moves_power s n) at_end (answer_stopped how p q t refl did.place) (power_stands m s n image base) in
      (failure_entry k x (Some how), silently p q s n (failure_entry k x (Some how)) (Some t) (Some (answer_after_stop how p.armed)) by.hit stepped refl)
