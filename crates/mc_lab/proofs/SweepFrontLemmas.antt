-- What is kept of a play with a card that runs, and the play that it is put back to.
use Rattle.std.specs.Prelude.{◌≡◌, ℕ, ◌≤◌, true, false, cond, ◌==◌, List, [], ◌∷◌, length, take, Option, Some, None, IfSome, refl}
use Rattle.std.proofs.Common.{arith, ap, sym, subst, ◌∙◌}
use Rattle.std.proofs.lemmas.List.{length-take-le, take-take}
use Rattle.law_explore.specs.model_device.specs.Card.{Card}
use Rattle.law_explore.specs.model_device.specs.Device.{DeviceState, BenchState, Entry, blank_words, device_words}
use Rattle.law_explore.specs.model_device.specs.Image.{Two}
use Rattle.law_explore.specs.model_device.specs.PowerUp.{Base, OnCard, migration, base_after_migration}
use Rattle.law_explore.specs.model_device.proofs.LayoutLemmas.{closed_means}
use Rattle.law_explore.specs.model_card.specs.Manager.{SessionState}
use Rattle.law_explore.specs.model_machine.specs.Chain.{Turn}
use Rattle.law_explore.specs.model_play.specs.DeckGrammar.{DeckLine}
use Rattle.law_explore.specs.model_play.specs.DeckGrammar as line
use Rattle.law_explore.specs.model_play.specs.Family.{is_running, live_in}
use Rattle.law_explore.specs.model_play.specs.Play as play
use Rattle.law_explore.specs.model_play.specs.Play.{Unarmed, Running, Unpowered, Muted, Warm, State, BeforePower, AfterPower, FailedWrite, start, step, armed_stop_in, play_at_power, power_after, power_live, words_left}
use Rattle.mc_store.specs.GoingLaws.{going_is}
use Rattle.mc_store.specs.Power.{HoldsBase, base_of_words, count_of}
use Rattle.mc_card.specs.declared.card.Card.{Card as CodeCard}
use Rattle.mc_card.specs.Parts.{card_in}
use Rattle.mc_card.specs.Saved.{SavedState}
use Rattle.mc_script.specs.declared.answer.Answer.{Answer}
use Rattle.mc_script.specs.declared.armed.Armed.{Armed as CodeArmed}
use Rattle.mc_script.specs.declared.live.Live.{Live}
use Rattle.mc_script.specs.declared.live.Live.TheVariants as live
use Rattle.mc_script.specs.declared.player.Player.{Player}
use Rattle.mc_script.specs.declared.player.Power.{Power}
use Rattle.mc_script.specs.Lives.{ShowsSession, LiveShows, FitsLive}
use Rattle.mc_script.specs.Lines.{LineDone, Stepped}
use Rattle.mc_script.specs.Players.{armed_value, device_of, IsCardOfPlay, IsPlayerAt, LiveIs}
use Rattle.mc_script.specs.Stops.{has_stop}
use Rattle.mc_script.proofs.UpLemmas.{up_base}
use Rattle.mc_lab.specs.Sweeps.{state_on_blank}
use Rattle.mc_lab.specs.SweepFronts.{is_card, HasPlayed, IsKeptAt, ShowsPlay}
use Rattle.mc_lab.specs.SweepPlayers.{IsPoweredUp, IsSteadyAt, LineOn}
use Rattle.lab_branch.specs.Branches.{BranchState}
use Rattle.mc_lab.specs.SweepBodies.{front_of, IsPlace}
use Rattle.mc_lab.specs.declared.sweep_front.Kept.{Kept}
use Rattle.mc_lab.specs.declared.sweep_play.Laboratory.{Laboratory}
use Rattle.mc_lab.specs.declared.sweep_trial.Place.{Place}
use Rattle.mc_lab.proofs.SweepPlays.{played_none}

-- what follows for what there is
pub if_some : {A : Type 0} (o : Option A) (P Q : A → Type 0) → ((x : A) → P x → Q x) → IfSome o P → IfSome o Q
if_some None P Q f h = h
if_some (Some x) P Q f h = f x h

-- ---- the power line of a card of layout 2 of which no write is owed

no_entries : (m : List (List ℕ)) (es : List Entry) (s : State) (w : Warm) → s ≡ AfterPower w → length es ≡ 0 → words_left m es s ≡ m
no_entries m [] s w is none = ap (λ (t : State). words_left m [] t) is
no_entries m (e ∷ es) s w is none = absurd (cc none)

up_moves : (m : List (List ℕ)) (b : ℕ) (c : Card) → HoldsBase (OnCard c) 0 Two m → c.layout ≡ 2 → (step (BeforePower m b Unarmed) (0, line.Power) None).moves ≡ 0
unfolding step play_at_power
up_moves m b c holds layout =
    let none : migration (base_of_words m) ≡ 0 = ap (λ (e : Base). migration e) holds.base ∙ ap (λ (i : ℕ). cond (i == 1) 6 0) layout in
    let owed = holds.owed in
    omega (arith, none, owed)

-- the play after it
abbrev up_warm : List (List ℕ) → ℕ → Warm
up_warm m b = power_after (play_at_power m b Unarmed) None

up_after : (m : List (List ℕ)) (b : ℕ) → (step (BeforePower m b Unarmed) (0, line.Power) None).after ≡ AfterPower (up_warm m b)
unfolding step play_at_power
up_after m b = refl

up_owed : (m : List (List ℕ)) (b : ℕ) → (up_warm m b).owed ≡ 0
unfolding play_at_power
up_owed m b = refl

up_budget : (m : List (List ℕ)) (b : ℕ) → (up_warm m b).budget ≡ b
unfolding play_at_power
up_budget m b = refl

up_unarmed : (m : List (List ℕ)) (b : ℕ) → (up_warm m b).armed ≡ Unarmed
unfolding play_at_power
up_unarmed m b = refl

up_card : (m : List (List ℕ)) (b : ℕ) (c : Card) → HoldsBase (OnCard c) 0 Two m → c.layout ≡ 2 → (up_warm m b).base ≡ OnCard c
unfolding play_at_power
up_card m b c holds layout = ap (λ (e : Base). base_after_migration e) holds.base ∙ ap (λ (i : ℕ). OnCard (record c { layout = i })) (sym layout)

up_runs : (m : List (List ℕ)) (b : ℕ) (c : Card) → HoldsBase (OnCard c) 0 Two m → is_running (up_warm m b).live ≡ true
unfolding play_at_power
up_runs m b c holds = ap (λ (e : Base). is_running (power_live e)) holds.base

-- ---- stops

not_armed : (a : CodeArmed) → has_stop a ≡ false → armed_value a ≡ Unarmed
not_armed a h = grind arith

module _ {N : Type 0} (state : N → DeviceState) (bench : N → BenchState) where
  -- ---- what is kept

  -- a card that runs is that of a card of the code
  card_of_play : (x : Power) (c : CodeCard N) (b : Base) (l : play.Live) (t : SessionState) → l ≡ Running t → LiveIs state x c b l → IsCardOfPlay state c b l
  card_of_play x c b l t is h = grind arith

  warm_shows : (p : Player N) (w : Warm) (v : SavedState) (g : ℕ) → IsPlayerAt state bench p (AfterPower w) → ShowsSession (state (device_of p)).words v w.live → g ≡ p.budget → w.armed ≡ Unarmed
      → ShowsPlay (state (device_of p)).words (record { budget = g; live = live.Running v }) w
  warm_shows p w v g at shows budget unarmed =
      let d = state (device_of p) in
      let card = card_of_play p.power p.card w.base w.live _ shows.runs at.stands.0 in
      let holds = up_base state p.card card.ready.up in
      let going = going_is d (count_of (p.card).store) card.ready.up.going in
      record {
        card = card_in state p.card;
        base = card.base;
        layout = ap (λ (c : Card). c.layout) (closed_means d.words going.closed) ∙ going.layout;
        owed = sym at.stands.1.owed ∙ holds.owed;
        holds = holds;
        live = shows;
        runs = ap (λ (l : play.Live). is_running l) shows.runs;
        budget = budget ∙ at.budget;
        some = subst (λ (n : ℕ). 1 ≤ n) (sym budget) at.some;
        most = subst (λ (n : ℕ). n ≤ 65536) (sym budget) at.most;
        unarmed = unarmed;
      }

  state_shows : (p : Player N) (s : State) (v : SavedState) (g : ℕ) → IsPlayerAt state bench p s → ShowsSession (state (device_of p)).words v (live_in s) → g ≡ p.budget → armed_stop_in s ≡ Unarmed
      → IsKeptAt (state (device_of p)).words (Some (record { budget = g; live = live.Running v })) s
  state_shows p (BeforePower m b a) v g at shows budget unarmed = absurd (cc shows.runs)
  state_shows p (AfterPower w) v g at shows budget unarmed = (w, refl, warm_shows p w v g at shows budget unarmed)

  -- what was saved of a player with a card that runs and no armed stop is kept for each state that it is at
  pub kept_at : (p : Player N) (l : Live) (g : ℕ) (k : Kept) (s : State) → k ≡ record { budget = g; live = l } → is_card l ≡ true → IsPlayerAt state bench p s → LiveShows (state (device_of p)).words l (live_in s) → g ≡ p.budget
      → has_stop p.armed ≡ false → IsKeptAt (state (device_of p)).words (Some k) s
  kept_at p live.Unpowered g k s is runs at shows budget none = absurd (cc runs)
  kept_at p live.Muted g k s is runs at shows budget none = absurd (cc runs)
  kept_at p (live.Running v) g k s is runs at shows budget none =
      subst (λ (x : Kept). IsKeptAt (state (device_of p)).words (Some x) s) (sym is) (state_shows p s v g at shows budget (sym at.armed ∙ not_armed p.armed none))

  -- ---- what is put back

  -- before its first line
  pub new_at : (d : N) (p : Player N) (s : State) → IsPlayerAt state bench p (start (state d).words) → device_of p ≡ d → (bench d).steady ≡ true → s ≡ start (state d).words → IsSteadyAt state bench p s
  new_at d p s at device steady is = grind arith

  -- after the budget line
  pub budget_set : (q : Player N) (m : List (List ℕ)) (g : ℕ) (a : Option Answer) → LineOn state bench (start m) (0, line.Budget g) a q → IsSteadyAt state bench q (BeforePower m g Unarmed)
  unfolding step
  budget_set q m g a on = on.at

  -- after the power line
  up_at : (p q : Player N) (m : List (List ℕ)) (b : ℕ) (c : Card) (w : Option FailedWrite) (a : Option Answer) → w ≡ None → IsSteadyAt state bench p (BeforePower m b Unarmed) → HoldsBase (OnCard c) 0 Two m → c.layout ≡ 2
      → Stepped state bench p (BeforePower m b Unarmed) (0, line.Power) w (step (BeforePower m b Unarmed) (0, line.Power) w) a q → IsPoweredUp state bench q m b c
  up_at p q m b c w a none at holds layout stepped =
      let s = BeforePower m b Unarmed in
      let st = subst (λ (x : Option FailedWrite). Stepped state bench p s (0, line.Power) x (step s (0, line.Power) x) a q) none stepped in
      let tape = st.played.tape in
      record {
        warm = up_warm m b;
        at = record { at = subst (λ (t : State). IsPlayerAt state bench q t) (up_after m b) st.at; steady = st.played.counts.counts.steady ∙ at.steady };
        words = sym tape.left ∙ no_entries (state (device_of p)).words tape.entries _ (up_warm m b) (up_after m b) (tape.accounts.count ∙ up_moves m b c holds layout) ∙ at.at.stands.1;
        base = up_card m b c holds layout;
        owed = up_owed m b;
        runs = up_runs m b c holds;
        budget = up_budget m b;
        unarmed = up_unarmed m b;
      }

  -- a power line on words without a stop leaves what power does
  pub powered_up : {R : Type 0} (reported : R → List Turn → R → Type 0) (p q : Player N) (before after : R) (a : Option Answer) → LineDone state bench reported p line.Power before after a q
      → (m : List (List ℕ)) (b : ℕ) (c : Card) → IsSteadyAt state bench p (BeforePower m b Unarmed) → HoldsBase (OnCard c) 0 Two m → c.layout ≡ 2 → IsPoweredUp state bench q m b c
  powered_up reported p q before after a done m b c at holds layout =
      let d = done (BeforePower m b Unarmed) 0 at.at in
      up_at p q m b c d.0 a (d.1.stepped.played.steady at.steady) at holds layout d.1.stepped

  -- what was kept fits the words
  fits_live : (m : List (List ℕ)) (v : Live) (l : play.Live) → LiveShows m v l → FitsLive m v
  fits_live m v l h = grind arith

  -- what was kept of a play fits the words that show it
  pub fits_kept : (q : Player N) (m : List (List ℕ)) (k : Kept) (w : Warm) → (state (device_of q)).words ≡ m → ShowsPlay m k w → FitsLive (state (device_of q)).words k.live
  fits_kept q m k w words shows = subst (λ (n : List (List ℕ)). FitsLive n k.live) (sym words) (fits_live m k.live w.live shows.live)

  -- a player at a play is at each play that differs in the journal of which nothing is owed
  settle : (p : Player N) (v w : Warm) → v.base ≡ w.base → v.live ≡ w.live → v.owed ≡ 0 → w.owed ≡ 0 → v.budget ≡ w.budget → v.armed ≡ w.armed → IsPlayerAt state bench p (AfterPower v)
      → IsPlayerAt state bench p (AfterPower w)
  settle p v w base live none owed budget armed_is at = grind arith

  -- a player that was put back is where the play was
  pub put_back_at : (q r : Player N) (m : List (List ℕ)) (k : Kept) (w : Warm) (shows : ShowsPlay m k w) → IsPoweredUp state bench q m k.budget shows.card → device_of r ≡ device_of q
      → ((s : Warm) (l : play.Live) → IsPlayerAt state bench q (AfterPower s) → LiveShows (state (device_of q)).words k.live l → is_running s.live ≡ is_running l → IsPlayerAt state bench r (AfterPower (record s { live = l })))
      → IsSteadyAt state bench r (AfterPower w)
  put_back_at q r m k w shows up device puts =
      grind (arith, subst (λ (n : List (List ℕ)). LiveShows n k.live w.live) (sym up.words) shows.live, puts up.warm w.live up.at.at (subst (λ (n : List (List ℕ)). LiveShows n k.live w.live) (sym up.words) shows.live) (up.runs ∙ sym shows.runs))

  -- a play that goes on from what was kept
  pub resumed_at : (r : Player N) (m : List (List ℕ)) (k : Kept) (s : State) → IsKeptAt m (Some k) s → ((w : Warm) → ShowsPlay m k w → IsSteadyAt state bench r (AfterPower w)) → IsSteadyAt state bench r s
  resumed_at r m k s h back = subst (λ (t : State). IsSteadyAt state bench r t) (sym h.1) (back h.0 h.2)

-- ---- lines that were played

-- no line of a blank device
pub played_no_line : (m : List (List ℕ)) → m ≡ blank_words device_words → state_on_blank [] ≡ start m
played_no_line m is = played_none (start (blank_words device_words)) ∙ ap (λ (n : List (List ℕ)). start n) (sym is)

-- lines that were played are a front of more lines
pub front_more : (m : List (List ℕ)) (k : Option Kept) (n a : ℕ) (ls : List (ℕ × DeckLine)) → n ≤ a → IsKeptAt m k (state_on_blank (take n ls)) → IsKeptAt m k (state_on_blank (take n (take a ls)))
front_more m k n a ls most h = subst (λ (l : List (ℕ × DeckLine)). IsKeptAt m k (state_on_blank l)) (sym (take-take n a ls most)) h

-- what was kept of the first lines was kept of fewer of them
pub front_less : (m : List (List ℕ)) (k : Option Kept) (n a : ℕ) (ls : List (ℕ × DeckLine)) → n ≤ a → IsKeptAt m k (state_on_blank (take n (take a ls))) → IsKeptAt m k (state_on_blank (take n ls))
front_less m k n a ls most h = subst (λ (l : List (ℕ × DeckLine)). IsKeptAt m k (state_on_blank l)) (take-take n a ls most) h

-- those before a place
pub played_before : (l : Laboratory) (p : Place) → IsPlace p → HasPlayed l (front_of p) → (l.played ≤ p.at) × IsKeptAt l.device.root l.kept (state_on_blank (take l.played p.deck.now))
played_before l p at h = grind (arith, length-take-le, front_less)

-- another root that is the same keeps what was played
pub played_on_root : (l : Laboratory) (d : BranchState) (ls : List (ℕ × DeckLine)) → d.root ≡ l.device.root → HasPlayed l ls → HasPlayed (record l { device = d }) ls
played_on_root l d ls same h = record { within = h.within; kept = subst (λ (m : List (List ℕ)). IsKeptAt m l.kept (state_on_blank (take l.played ls))) (sym same) h.kept }

-- what is kept on the words of a device whose root was the same
pub kept_on_words : (m n : List (List ℕ)) (k : Option Kept) (s : State) → n ≡ m → IsKeptAt m k s → IsKeptAt n k s
kept_on_words m n k s is h = subst (λ (x : List (List ℕ)). IsKeptAt x k s) (sym is) h
