-- Players in the plays of a sweep: the states that they represent, and the observed states.
use Rattle.std.specs.Prelude.{◌≡◌, ℕ, zero, suc, ◌+◌, ◌≤◌, Bool, true, List, [], ◌∷◌, ◌++◌, length, map, take, drop, slice_get, slice_set, get_or, Option, Some, None, option_map, refl, ⊤}
use Rattle.std.proofs.Common.{arith, ap, sym, subst, ◌∙◌}
use Rattle.std.proofs.lemmas.List.{length-set, take_all}
use Rattle.mc_blocks.specs.declared.image.Unusable.{Unusable}
use Rattle.law_explore.specs.model_device.specs.Bytes.{lookup}
use Rattle.law_explore.specs.model_device.specs.Card.{App, heap_start}
use Rattle.law_explore.specs.model_machine.specs.Chain.{Turn}
use Rattle.law_explore.specs.model_device.specs.Device.{DeviceState, BenchState, Entry}
use Rattle.law_explore.specs.model_device.specs.declared.device.Stop.{Stop}
use Rattle.law_explore.specs.model_device.specs.declared.device.Stop.TheVariants as stop
use Rattle.law_explore.specs.model_card.specs.Items.{StopAt}
use Rattle.law_explore.specs.model_play.specs.Play.{Armed, Live, Warm, State, BeforePower, AfterPower, FailedWrite, LineResult, Ready, hit_of, power_result, power_says, result_of_stop, step, card_line, static_of, steady_at, moves_of, armed_stop_in, play_at_power, power_moves, laid_entries, words_left, formatted_image}
use Rattle.law_explore.specs.model_device.specs.PowerUp.{Base, OnCard, AtFault}
use Rattle.law_explore.specs.model_play.specs.DeckGrammar.{DeckLine}
use Rattle.law_explore.specs.model_play.specs.DeckGrammar as line
use Rattle.mc_deck.specs.law_family.proofs.ReadyLines.{owed_most, migration_most}
use Rattle.mc_script.specs.declared.answer.Answer.{Answer}
use Rattle.mc_script.specs.declared.player.Power.{Power}
use Rattle.mc_script.specs.declared.player.Power.TheVariants as power
use Rattle.mc_script.specs.declared.player.Player.{Player}
use Rattle.mc_card.specs.declared.card.Card.{Card}
use Rattle.mc_card.specs.Parts.{device_in}
use Rattle.mc_script.specs.Cuts.{off_in}
use Rattle.mc_script.specs.Players.{answer_value, device_of, dump_value, statics_by, statics_in, LiveIs, StateIs, IsPlaying}
use Rattle.mc_script.specs.Lines.{LineDone}
use Rattle.law_explore.specs.model_device.proofs.ImageLemmas.{length_laid as laid-size}
use Rattle.mc_lab.specs.Sweeps.{steady_step, state_on_blank, state_after_power, state_by_result, Holds, static_bytes_under, running_apps, running_in, cut_statement, under_cut}
use Rattle.mc_lab.specs.SweepBodies.{state_by_fault, next, trial_lines, hits, front_of, line_in, names_in, state_at_place, hit_in, again_in, IsRecoveryBound}
use Rattle.mc_lab.specs.SweepPlayers.{fault_in, most_in, TrialOn, CutOn, IsSteadyAt, LineOn}
use Rattle.mc_lab.specs.declared.sweep_trial.TrialLines.{TrialLines}
use Rattle.mc_lab.specs.declared.sweep_trial.Place.{Place}
use Rattle.mc_lab.specs.declared.sweep_trial.TrialLines.TheVariants as trial
use Rattle.mc_lab.proofs.SweepPlays.{played_one, played_two}

-- ---- lists

-- the first i + 1 elements are the first i and the one at i
pub take_one : {A : Type 0} (i : ℕ) (xs : List A) (x : A) → slice_get xs i ≡ Some x → take (i + 1) xs ≡ take i xs ++ x ∷ []
take_one i [] x h = absurd (cc h)
take_one zero (y ∷ ys) x h = let e : y ≡ x = cc h in ap (λ (z : _). z ∷ []) e
take_one (suc i) (y ∷ ys) x h =
    ap (λ (n : ℕ). take n (y ∷ ys)) (let e : suc i + 1 ≡ suc (i + 1) = omega arith in e) ∙ ap (λ l. y ∷ l) (take_one i ys x h)

-- an element at a place is read whatever the default
pub got_or : {A : Type 0} (xs : List A) (i : ℕ) (d x : A) → slice_get xs i ≡ Some x → get_or xs i d ≡ x
got_or [] i d x h = absurd (cc h)
got_or (y ∷ ys) zero d x h = cc h
got_or (y ∷ ys) (suc i) d x h = got_or ys i d x h

-- ---- the number of words of a device

after_power_size : (m : List (List ℕ)) (es : List Entry) → length (laid_entries m es) ≡ length m
after_power_size m es = laid-size m (map (λ e. (e.at, e.left)) es)

card_size : (n : ℕ) (l : DeckLine) (s : Warm) (live : Live) (base : Base) (w : Option FailedWrite) (m : List (List ℕ)) (es : List Entry) → length (words_left m es (card_line n l s live base w).after) ≡ length m
card_size n l s live base w m es = grind (arith, after_power_size)

-- before the first power line the words are the image
abbrev WordsOf : List (List ℕ) → State → Type 0
WordsOf m (BeforePower i b a) = m ≡ i
WordsOf m (AfterPower s) = ⊤

formatted_size : (m : List (List ℕ)) → length (formatted_image m) ≡ length m
formatted_size m = length-set _ heap_start _ ∙ length-set _ 130 _ ∙ length-set _ 2 _ ∙ length-set _ 1 _ ∙ length-set m 0 _

left_size : (s : State) (n : ℕ) (l : DeckLine) (w : Option FailedWrite) (m : List (List ℕ)) (es : List Entry) → WordsOf m s → length (words_left m es (step s (n, l) w).after) ≡ length m
unfolding step
left_size (BeforePower i b a) n line.Format w m es e = ap (λ (x : List (List ℕ)). length (formatted_image x)) (sym e) ∙ formatted_size m
left_size (BeforePower i b a) n (line.Poke at x) w m es e = ap (λ (y : List (List ℕ)). length (slice_set y at x)) (sym e) ∙ length-set m at x
left_size (BeforePower i b a) n line.Power w m es e = after_power_size m es
left_size (AfterPower s) n (line.Sent sent) w m es e = card_size n (line.Sent sent) s s.live s.base w m es
left_size (BeforePower i b a) n _ w m es e = ap length (sym e)
left_size (AfterPower s) n _ w m es e = after_power_size m es

-- ---- the writes of a recovery

warmed_few : (m : List (List ℕ)) (b : ℕ) (a : Armed) → power_moves (play_at_power m b a) ≤ 71
unfolding play_at_power
warmed_few m b a =
    let few = owed_most m in
    let most = migration_most (play_at_power m b a).base in
    omega (arith, few, most)

-- ---- the observed state

static_held : (o : Option App) (names : List (List ℕ)) (s : State) → state_by_result names (Some (static_of o)) s ≡ Holds (static_bytes_under names (running_in s))
static_held None names s = refl
static_held (Some a) names s = refl

module _ {N : Type 0} (state : N → DeviceState) where
  dump_held : (p : Power) (c : Card N) (aid : List ℕ) (names : List (List ℕ)) (s : State) → state_by_result names (Some (dump_value state p c aid)) s ≡ Holds (static_bytes_under names (running_in s))
  dump_held p c aid names s = grind (arith, static_held)

  reported_answer : (p : Player N) (a : Option Answer) (names : List (List ℕ)) (s : State) → state_by_fault (fault_in a) (static_bytes_under names (running_in s)) ≡ state_by_result names (option_map (answer_value state p) a) s
  reported_answer p a names s = grind (arith, dump_held)

  -- the static bytes that a player shows are those of the card that runs
  live_statics : (p : Power) (c : Card N) (b : Base) (v : Live) (n : List ℕ) → LiveIs state p c b v → statics_by state p c n ≡ option_map (λ a. a.fixed) (lookup (running_apps v b) n)
  live_statics p c b v n h = grind arith

  before_power_statics : (p : Power) (c : Card N) (n : List ℕ) → p ≡ power.BeforePower → statics_by state p c n ≡ None
  before_power_statics p c n h = ap (λ (q : Power). statics_by state q c n) h

  state_statics : (p : Power) (c : Card N) (s : State) (n : List ℕ) → StateIs state p c s → statics_by state p c n ≡ option_map (λ a. a.fixed) (lookup (running_in s) n)
  state_statics p c (BeforePower m b a) n h = before_power_statics p c n h.0
  state_statics p c (AfterPower w) n h = live_statics p c w.base w.live n h.0

  all_statics : (p : Player N) (s : State) (names : List (List ℕ)) → StateIs state p.power p.card s → map (statics_in state p) names ≡ static_bytes_under names (running_in s)
  all_statics p s [] h = refl
  all_statics p s (n ∷ ns) h = grind (arith, state_statics, all_statics p s ns h)

module _ {N : Type 0} (state : N → DeviceState) (bench : N → BenchState) where
  -- ---- a line

  -- a player that played a line without a failed write plays it from its state
  pub line_on : {R : Type 0} (reported : R → List Turn → R → Type 0) (p q : Player N) (l : DeckLine) (before after : R) (a : Option Answer) → LineDone state bench reported p l before after a q
      → (s : State) (n : ℕ) → IsSteadyAt state bench p s → LineOn state bench s (n, l) a q
  line_on reported p q l before after a done s n h = grind (arith, done s n h.at, (done s n h.at).1.stepped, ((done s n h.at).1.stepped).played.steady h.steady)

  -- a player that played a line is playing
  pub line_playing : {R : Type 0} (reported : R → List Turn → R → Type 0) (p q : Player N) (l : DeckLine) (before after : R) (a : Option Answer) → LineDone state bench reported p l before after a q → IsPlaying state bench p → IsPlaying state bench q
  line_playing reported p q l before after a done h = grind (arith, done h.0 0 h.1)

  words_of : (p : Power) (c : Card N) (s : State) → StateIs state p c s → WordsOf (state (device_in c)).words s
  words_of p c (BeforePower m b a) h = h.1
  words_of p c (AfterPower w) h = tt

  -- a player that played a line has a device of the same size
  pub line_size : {R : Type 0} (reported : R → List Turn → R → Type 0) (p q : Player N) (l : DeckLine) (before after : R) (a : Option Answer) → LineDone state bench reported p l before after a q → IsPlaying state bench p
      → length (state (device_of q)).words ≡ length (state (device_of p)).words
  line_size reported p q l before after a done h =
      let d = done h.0 0 h.1 in
      let tape = d.1.stepped.played.tape in
      sym (ap length tape.left) ∙ left_size h.0 0 l d.0 (state (device_of p)).words tape.entries (words_of p.power p.card h.0 h.1.stands)

  -- ---- the lines before a line

  -- a player that plays the next line of a deck is after one line more
  pub front_on : (p q : Player N) (ls : List (ℕ × DeckLine)) (i n : ℕ) (l : DeckLine) (a : Option Answer) → slice_get ls i ≡ Some (n, l)
      → ((s : State) (n : ℕ) → IsSteadyAt state bench p s → LineOn state bench s (n, l) a q) → IsSteadyAt state bench p (state_on_blank (take i ls)) → IsSteadyAt state bench q (state_on_blank (take (i + 1) ls))
  front_on p q ls i n l a here on h =
      subst (λ (s : State). IsSteadyAt state bench q s) (sym (ap state_on_blank (take_one i ls (n, l) here) ∙ played_one (take i ls) (n, l))) (on (state_on_blank (take i ls)) n h).at

  -- ---- a line with a write cut

  -- a player that arms a cut and plays the line has played that cut
  pub cut_on : (p m q : Player N) (l : DeckLine) (k : ℕ) (fill : List ℕ) (armed a : Option Answer) (hit : Bool)
      → ((s : State) (n : ℕ) → IsSteadyAt state bench p s → LineOn state bench s (n, line.Cut k fill) armed m)
      → ((s : State) (n : ℕ) → IsSteadyAt state bench m s → LineOn state bench s (n, l) a q) → hit ≡ off_in a
      → (s : State) (i n : ℕ) → IsSteadyAt state bench p s → CutOn state bench s (n, l) i k fill hit q
  cut_on p m q l k fill armed a hit first second is s i n h = grind (arith, first s i h, second (next s (i, line.Cut k fill)) n (first s i h).at)

  -- ---- the lines of a trial from its line on

  at_lines : (q : Player N) (s t : State) → t ≡ s → IsSteadyAt state bench q s → IsSteadyAt state bench q t
  at_lines q s t e h = subst (λ (u : State). IsSteadyAt state bench q u) (sym e) h

  -- a player that plays the line is on its whole trial
  pub whole_on : (q : Player N) (l : DeckLine) (a : Option Answer) (p : Player N) (hit : Bool) → hit ≡ true → ((s : State) (n : ℕ) → IsSteadyAt state bench p s → LineOn state bench s (n, l) a q)
      → (front : List (ℕ × DeckLine)) (n : ℕ) → IsSteadyAt state bench p (state_on_blank front) → TrialOn state bench front (n, l) trial.Whole hit q
  whole_on q l a p hit is on front n h =
      record { at = at_lines q (next (state_on_blank front) (n, l)) (state_on_blank (front ++ (n, l) ∷ [])) (played_one front (n, l)) (on (state_on_blank front) n h).at; says = is }

  -- a player that arms a cut before a line is on its trial
  pub cut_behind : (p q : Player N) (l : DeckLine) (k : ℕ) (fill : List ℕ) (hit : Bool) → ((s : State) (i n : ℕ) → IsSteadyAt state bench p s → CutOn state bench s (n, l) i k fill hit q)
      → (front : List (ℕ × DeckLine)) (n : ℕ) → IsSteadyAt state bench p (state_on_blank front) → TrialOn state bench front (n, l) (trial.Cut k fill) hit q
  cut_behind p q l k fill hit on front n h =
      let c = on (state_on_blank front) n n h in
      record { at = at_lines q (next (next (state_on_blank front) (cut_statement n k fill)) (n, l)) (state_on_blank (front ++ cut_statement n k fill ∷ (n, l) ∷ [])) (played_two front (cut_statement n k fill) (n, l)) c.at; says = c.says }

  -- a player that arms a cut in the recovery after a cut is on the trial of both
  pub twice_behind : (p m q : Player N) (l : DeckLine) (k : ℕ) (fill : List ℕ) (again : ℕ) (first hit : Bool)
      → ((s : State) (i n : ℕ) → IsSteadyAt state bench p s → CutOn state bench s (n, l) i k fill first m)
      → ((s : State) (i n : ℕ) → IsSteadyAt state bench m s → CutOn state bench s (n, line.Power) i again fill hit q)
      → (front : List (ℕ × DeckLine)) (n : ℕ) → IsSteadyAt state bench p (state_on_blank front) → TrialOn state bench front (n, l) (trial.Twice k fill again) hit q
  twice_behind p m q l k fill again first hit one two front n h =
      let b = cut_behind p m l k fill first one front n h in
      let lines = front ++ cut_statement n k fill ∷ (n, l) ∷ [] in
      let c = two (state_on_blank lines) n n b.at in
      record {
        at = at_lines q (next (next (state_on_blank lines) (cut_statement n again fill)) (n, line.Power)) (state_on_blank (lines ++ cut_statement n again fill ∷ (n, line.Power) ∷ [])) (played_two lines (cut_statement n again fill) (n, line.Power)) c.at;
        says = c.says;
      }

  -- ---- the observed state after a power line

  -- what is reported after a power line is the observed state of its card
  pub reported_on : (q : Player N) (ls : List (ℕ × DeckLine)) (names : List (List ℕ)) (a : Option Answer) (f : Option Unusable) (held : List (Option (List ℕ)))
      → LineOn state bench (state_on_blank ls) (0, line.Power) a q → f ≡ fault_in a → held ≡ map (statics_in state q) names → state_by_fault f held ≡ state_after_power names ls
  unfolding state_after_power
  reported_on q ls names a f held on f_is held_is =
      let s = next (state_on_blank ls) (0, line.Power) in
      ap (λ (x : Option Unusable). state_by_fault x held) f_is
      ∙ ap (λ (h : List (Option (List ℕ))). state_by_fault (fault_in a) h) (held_is ∙ all_statics state q s names on.at.at.stands)
      ∙ reported_answer state q a names s
      ∙ ap (λ (r : Option LineResult). state_by_result names r s) on.answers

  -- ---- the number of writes of a recovery

  power_few_by : (p : Power) (c : Card N) (s : State) (n : ℕ) → StateIs state p c s → moves_of s (n, line.Power) ≤ 65535
  unfolding moves_of step
  power_few_by p c (BeforePower m b a) n h = let few = warmed_few m b a in omega (arith, few)
  power_few_by p c (AfterPower w) n h =
      let few = owed_most (state (device_in c)).words in
      let is = h.1.owed in
      let most = migration_most w.base in
      omega (arith, few, is, most)

  -- a power line makes at most 65,535 device writes
  pub power_few : (p : Player N) (s : State) (n : ℕ) → IsSteadyAt state bench p s → moves_of s (n, line.Power) ≤ 65535
  power_few p s n h = power_few_by p.power p.card s n h.at.stands

  -- a result that no stop made
  ready_base : (m k : ℕ) (b : Base) → Some (power_result m b) ≡ Some (Ready k) → m ≡ k
  ready_base m k (OnCard c) e = cc e
  ready_base m k (AtFault cause place) e = absurd (cc e)

  ready_stop : (t : StopAt) (k : ℕ) (how : Stop) → Some (result_of_stop t how) ≡ Some (Ready k) → ⊥
  ready_stop t k stop.Off e = absurd (cc e)
  ready_stop t k stop.Worn e = absurd (cc e)

  ready_says : (w : Warm) (t : Option StopAt) (k : ℕ) → Some (power_says w t) ≡ Some (Ready k) → power_moves w ≡ k
  ready_says w None k e = ready_base (power_moves w) k w.base e
  ready_says w (Some t) k e = absurd (ready_stop t k t.kind e)

  -- a power line that finds a card has as many writes as it says
  ready_step : (s : State) (n k : ℕ) (w : Option FailedWrite) → (step s (0, line.Power) w).result ≡ Some (Ready k) → moves_of s (n, line.Power) ≡ k
  unfolding moves_of step
  ready_step (BeforePower m b a) n k w e = let all = ready_says (play_at_power m b a) (hit_of a (power_moves (play_at_power m b a)) w) k e in omega (arith, all)
  ready_step (AfterPower v) n k w e = let all = ready_says v (hit_of v.armed (power_moves v) w) k e in omega (arith, all)

  ready_moves : (s : State) (n k : ℕ) → (steady_step s (0, line.Power)).result ≡ Some (Ready k) → moves_of s (n, line.Power) ≡ k
  ready_moves s n k e = ready_step s n k (steady_at (armed_stop_in s) line.Power (moves_of s (0, line.Power))) e

  power_most : (p : Player N) (s : State) (n : ℕ) (q : Player N) (a : Option Answer) → IsSteadyAt state bench p s → option_map (answer_value state q) a ≡ (steady_step s (0, line.Power)).result → moves_of s (n, line.Power) ≤ most_in a
  power_most p s n q a h e = grind (arith, ready_moves, power_few)

  -- ---- one play

  module _ (p : Place) (b : TrialLines) (x : ℕ × DeckLine) (here : slice_get p.deck.now p.at ≡ Some x) (hit : Bool) (m : Player N) (behind_on : TrialOn state bench (front_of p) x b hit m) where
    line_is : x ≡ line_in p
    line_is = sym (got_or p.deck.now p.at (0, line.Named) x here)

    -- what a trial reports is the observed state after it
    pub trial_reported : (q : Player N) (a : Option Answer) (f : Option Unusable) (held : List (Option (List ℕ))) → ((s : State) (n : ℕ) → IsSteadyAt state bench m s → LineOn state bench s (n, line.Power) a q)
        → f ≡ fault_in a → held ≡ map (statics_in state q) (names_in p) → state_by_fault f held ≡ state_at_place p b
    trial_reported q a f held on f_is held_is =
        let ls = trial_lines (front_of p) x b in
        reported_on q ls (names_in p) a f held (on (state_on_blank ls) 0 behind_on.at) f_is held_is ∙ ap (λ (l : ℕ × DeckLine). state_after_power (names_in p) (trial_lines (front_of p) l b)) line_is

    -- whether a cut hit is whether the trial's write was made
    pub trial_hit : hit ≡ hit_in p b
    trial_hit = behind_on.says ∙ ap (λ (l : ℕ × DeckLine). hits (front_of p) l b) line_is

  -- the result of the power line of a play
  abbrev PowerOn : Player N → Player N → Option Answer → Type 0
  PowerOn m q a = (s : State) (n : ℕ) → IsSteadyAt state bench m s → LineOn state bench s (n, line.Power) a q

  few_cut : (p : Place) (k : ℕ) (fill : List ℕ) (hit : Bool) (m q : Player N) (a : Option Answer) → PowerOn m q a → TrialOn state bench (front_of p) (line_in p) (trial.Cut k fill) hit m → again_in p k fill ≤ most_in a
  few_cut p k fill hit m q a power_on on =
      let s = state_on_blank (under_cut (front_of p) (line_in p) k fill) in
      power_most m s (line_in p).0 q a on.at (power_on s 0 on.at).answers

  few_by : (p : Place) (b : TrialLines) (hit : Bool) (m q : Player N) (a : Option Answer) → PowerOn m q a → TrialOn state bench (front_of p) (line_in p) b hit m → IsRecoveryBound p b (most_in a)
  few_by p trial.Nothing hit m q a power_on on = tt
  few_by p trial.Whole hit m q a power_on on = tt
  few_by p (trial.Cut k fill) hit m q a power_on on = few_cut p k fill hit m q a power_on on
  few_by p (trial.Twice k fill again) hit m q a power_on on = tt

  -- the writes of a trial's recovery bound those that it may make
  pub trial_few : (p : Place) (b : TrialLines) (x : ℕ × DeckLine) → slice_get p.deck.now p.at ≡ Some x → (hit : Bool) (m q : Player N) (a : Option Answer) → PowerOn m q a → TrialOn state bench (front_of p) x b hit m → IsRecoveryBound p b (most_in a)
  trial_few p b x here hit m q a power_on on =
      few_by p b hit m q a power_on (subst (λ (l : ℕ × DeckLine). TrialOn state bench (front_of p) l b hit m) (sym (got_or p.deck.now p.at (0, line.Named) x here)) on)

-- ---- the static bytes under names

-- the bytes that were held are the static bytes under a name
pub held_is_statics : (o : Option (List ℕ)) (n m : ℕ) (held into : List ℕ) → Some n ≡ option_map length o → ((fixed : List ℕ) → o ≡ Some fixed → into ≡ take m (drop 0 fixed)) → m ≡ n → held ≡ into → Some held ≡ o
held_is_statics None n m held into h is size kept = absurd (cc h)
held_is_statics (Some fixed) n m held into h is size kept =
    let long : n ≡ length fixed = cc h in
    ap Some (kept ∙ is fixed refl ∙ take_all m fixed (omega (arith, size, long)))
