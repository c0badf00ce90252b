-- A state decides the answers, and what the words of a device mean decides the state.
use Rattle.std.specs.Prelude.{◌≡◌, ℕ, ◌≤◌, true, List, [], Option, Some, None, refl}
use Rattle.std.proofs.Common.{ap, sym, subst, ◌∙◌, arith}
use Rattle.model_play.specs.model_device.specs.declared.cause.Cause.{Cause}
use Rattle.model_play.specs.model_device.specs.Bytes.{zeros}
use Rattle.model_play.specs.model_device.specs.Card.{Card, means}
use Rattle.model_play.specs.model_device.specs.Layout.{fault}
use Rattle.model_play.specs.model_device.specs.PowerUp.{Base, OnCard, base_after_migration, base_of}
use Rattle.model_play.specs.DeckGrammar as line
use Rattle.model_play.specs.Family.{is_running}
use Rattle.model_play.specs.Play.{Unarmed, is_card_line, Live, Warm, State, BeforePower, AfterPower, Step, step, play_at_power, power_live}
use Rattle.law_explore.specs.Rules.{Move}
use Rattle.law_explore.specs.States.{CardState, play_of, warm_state, state_in}
use Rattle.law_explore.specs.Tries.{Manner, Whole, CutAt, writes_of, next, step_of, recovery}
use Rattle.law_explore.specs.Safety.{after_cuts, recovery_with, CanMake, ShowsSame, IsSettled, StateLaw, WordsLaw}
use Rattle.law_explore.proofs.Recoveries.{states_equal}
use Rattle.law_explore.proofs.Actions.{IsStarted, Agrees, refilled, FillsAlike, move_done, move_writes}

-- ---- a move with its own fill

-- the word that a manner leaves
fill_of : Manner → List ℕ
fill_of Whole = zeros 8
fill_of (CutAt k x) = x

own_fill : (w : Manner) → FillsAlike w (fill_of w)
unfolding fill_of
own_fill Whole = tt
own_fill (CutAt k x) = refl

own_manner : (w : Manner) → refilled w (fill_of w) ≡ w
unfolding fill_of
own_manner Whole = refl
own_manner (CutAt k x) = refl

no_cuts : (n : ℕ) (w : Manner) (z : State) → recovery_with n w [] z ≡ recovery n w z
unfolding after_cuts
no_cuts n Whole z = refl
no_cuts n (CutAt k x) z = refl

-- what a move does in a play that agrees with a state, it does in the state
pub record DoneSame (s : State) (c : CardState) (m : Move) (w : Manner) : Type 0 where
  pub shows : ShowsSame (step_of s m w) (step_of (play_of c) m w)
  pub after : (a : List (List ℕ × ℕ)) → Agrees (recovery m.number w (step_of s m w).after) (state_in (recovery m.number w (step_of (play_of c) m w).after) a)

-- a move that can be made in a play does the same in the state that agrees with it
pub done_same : (s : State) (c : CardState) (m : Move) (w : Manner) → is_card_line m.line ≡ true → Agrees s c → CanMake s m w → DoneSame s c m w
done_same s c m w is h can =
    let d = move_done s c m w [] (fill_of w) is (own_fill w) h can in
    record {
      shows = subst (λ (v : Manner). ShowsSame (step_of s m w) (step_of (play_of c) m v)) (own_manner w) d.shows;
      after = λ a.
          subst (λ (z : State). Agrees z (state_in (recovery m.number w (step_of (play_of c) m w).after) a)) (no_cuts m.number w (step_of s m w).after)
          (subst (λ (v : Manner). Agrees (recovery_with m.number w [] (step_of s m w).after) (state_in (recovery m.number v (step_of (play_of c) m v).after) a)) (own_manner w) (d.after a));
    }

-- ---- states

-- the state of a play that agrees with a state is that state
pub state_of : (z : State) (c : CardState) → Agrees z c → state_in z c.allowances ≡ c
state_of z c h = ap (λ (y : State). state_in y c.allowances) h.is ∙ states_equal c.allowances _ _ _ _ _ _ h.base h.live h.budget

runs_started : (v : Live) (b : Base) (o : ℕ) → is_running v ≡ true → IsSettled v b o → IsStarted v b o
runs_started v b o on h = grind arith

shows_turned : (x y z : Step) → ShowsSame x z → ShowsSame y z → ShowsSame x y
shows_turned x y z g h = record { result = g.result ∙ sym h.result; turns = g.turns ∙ sym h.turns }

-- the same manner in the other play
can_other : (s t : Warm) (m : Move) (w : Manner) → s.live ≡ t.live → writes_of (AfterPower s) m ≡ writes_of (AfterPower t) m → CanMake (AfterPower s) m w → CanMake (AfterPower t) m w
can_other s t m Whole e n can = tt
can_other s t m (CutAt k x) e n can = (subst (λ (v : Live). is_running v ≡ true) e can.0, can.1, subst (λ (i : ℕ). k ≤ i) n can.2)

-- a state decides the answers of its moves
pub state_law : StateLaw
state_law s t m h is =
    let c : CardState = warm_state s [] in
    let started : IsStarted s.live s.base s.owed = runs_started s.live s.base s.owed h.runs h.first.settled in
    let on : is_running t.live ≡ true = subst (λ (v : Live). is_running v ≡ true) h.live h.runs in
    let begun : IsStarted t.live t.base t.owed = runs_started t.live t.base t.owed on h.second.settled in
    let begun-there : IsStarted s.live s.base t.owed =
    subst (λ (v : Live). IsStarted v s.base t.owed) (sym h.live) (subst (λ (b : Base). IsStarted t.live b t.owed) (sym h.base) begun) in
    let a : Agrees (AfterPower s) c = record { warm = s; is = refl; base = refl; live = refl; budget = refl; unarmed = h.first.unarmed; started = started } in
    let b : Agrees (AfterPower t) c = record { warm = t; is = refl; base = sym h.base; live = sym h.live; budget = sym h.budget; unarmed = h.second.unarmed; started = begun-there } in
    let writes : writes_of (AfterPower s) m ≡ writes_of (AfterPower t) m = move_writes (AfterPower s) c m is h.runs a ∙ sym (move_writes (AfterPower t) c m is h.runs b) in
    record {
      writes = writes;
      shows = λ w can. shows_turned _ _ _ (done_same (AfterPower s) c m w is a can).shows (done_same (AfterPower t) c m w is b (can_other s t m w h.live writes can)).shows;
      after = λ w can e.
          state_of _ (state_in (recovery m.number w (step_of (play_of c) m w).after) e) ((done_same (AfterPower s) c m w is a can).after e)
          ∙ sym (state_of _ (state_in (recovery m.number w (step_of (play_of c) m w).after) e) ((done_same (AfterPower t) c m w is b (can_other s t m w h.live writes can)).after e));
    }

-- ---- words

-- the state after a power line that no stop hits, by the base that it finds
abbrev powered_state : Base → ℕ → List (List ℕ × ℕ) → CardState
powered_state b g a = record { base = base_after_migration b; live = power_live b; budget = g; allowances = a }

before_power_power : (i b : ℕ) (m : List (List ℕ)) (a : List (List ℕ × ℕ)) → state_in (next (BeforePower m b Unarmed) (i, line.Power)) a ≡ powered_state (base_of (fault m) m) b a
unfolding step play_at_power
before_power_power i b m a = refl

bases_same : (f : Option (Cause × ℕ)) (m n : List (List ℕ)) → means m ≡ means n → base_of f m ≡ base_of f n
bases_same None m n h = ap (λ (c : Card). OnCard c) h
bases_same (Some f) m n h = refl

-- what the words of a device mean decides the state
pub words_law : WordsLaw
words_law i b m n a e h =
    before_power_power i b m a
    ∙ ap (λ (f : Option (Cause × ℕ)). powered_state (base_of f m) b a) e
    ∙ ap (λ (x : Base). powered_state x b a) (bases_same (fault n) m n h)
    ∙ sym (before_power_power i b n a)
