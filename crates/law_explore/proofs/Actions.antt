-- Each action of a play is a try of the state that agrees with it.
use Rattle.std.specs.Prelude.{◌≡◌, ℕ, ◌≤◌, Bool, true, cond, ◌==◌, List, Some, None, ⊤, refl}
use Rattle.std.proofs.Common.{arith, ap, sym, subst, inr, ◌∙◌}
use Rattle.std.proofs.lemmas.Bool.{le-leb}
use Rattle.model_play.specs.model_device.specs.declared.device.Stop.TheVariants as stop
use Rattle.model_play.specs.model_device.specs.Bytes.{zeros}
use Rattle.model_play.specs.model_device.specs.Image.{Journal, Two}
use Rattle.model_play.specs.model_device.specs.Card.{Card}
use Rattle.model_play.specs.model_device.specs.PowerUp.{Base, OnCard, AtFault, migration, base_after_migration}
use Rattle.model_play.specs.model_card.specs.Items.{Item, moves, StopAt, at_stop, card_done}
use Rattle.model_play.specs.model_card.specs.Manager.{SessionState}
use Rattle.model_play.specs.model_card.specs.Commands.{Command}
use Rattle.model_play.specs.DeckGrammar.{DeckLine, DeckCommand}
use Rattle.model_play.specs.DeckGrammar as line
use Rattle.model_play.specs.Play.{Armed, Unarmed, ArmedCut, Live, Running, Unpowered, Muted, Warm, State, AfterPower, Step, step, is_card_line, moves_of, power_live, power_after, power_step, card_line, command_step, line_command, stopped_line}
use Rattle.model_play.specs.Family.{is_running}
use Rattle.law_explore.specs.Rules.{Move}
use Rattle.law_explore.specs.States.{CardState, play_of, state_in}
use Rattle.law_explore.specs.Tries.{Manner, Whole, CutAt, manners, writes_of, next, step_of, recovery}
use Rattle.law_explore.specs.Safety.{Among, after_cuts, recovery_with, CanMake, ShowsSame, IsFill, DoesSame, IsSettled, FillLaw}
use Rattle.law_explore.proofs.Recoveries.{state_by, cuts_heal, whole_power, states_equal}
use Rattle.law_explore.proofs.Fills.{OpenAlike, whole_same, fill_for, cuts_among}
use Rattle.model_play.proofs.LineKinds.{past_power}

-- ---- plays that agree with a state

-- a card runs and is settled, or there is no card
abbrev pub IsStarted : Live → Base → ℕ → Type 0
IsStarted (Running session_state) (OnCard c) owed = (owed ≡ 0) × (c.layout ≡ 2)
IsStarted (Running session_state) (AtFault cause place) owed = ⊥
IsStarted Unpowered (OnCard c) owed = ⊥
IsStarted Unpowered (AtFault cause place) owed = ⊤
IsStarted Muted (OnCard c) owed = ⊥
IsStarted Muted (AtFault cause place) owed = ⊤

-- a play goes on as a state does
pub record Agrees (s : State) (c : CardState) : Type 0 where
  pub warm : Warm
  pub is : s ≡ AfterPower warm
  pub base : warm.base ≡ c.base
  pub live : warm.live ≡ c.live
  pub budget : warm.budget ≡ c.budget
  pub unarmed : warm.armed ≡ Unarmed
  pub started : IsStarted c.live c.base warm.owed

-- a play by the parts of its state
pub warm_is : (s : Warm) (b : Base) (v : Live) (g : ℕ) → s.base ≡ b → s.live ≡ v → s.budget ≡ g → s.armed ≡ Unarmed → s ≡ past_power b s.owed s.by v g Unarmed
warm_is s b v g x y z u = grind (arith, past_power)

-- ---- one action

abbrev move_by : ℕ → List ℕ → DeckLine → Move
move_by n t l = record { number = n; text = t; line = l }

-- a manner with another word that a cut leaves
abbrev pub refilled : Manner → List ℕ → Manner
refilled Whole y = Whole
refilled (CutAt k x) y = CutAt k y

-- a word that opens the journal as the one of a manner does
abbrev pub FillsAlike : Manner → List ℕ → Type 0
FillsAlike Whole y = ⊤
FillsAlike (CutAt k x) y = OpenAlike x y

-- A move that is made in a play shows what it shows in the state, cut with a word that opens alike, and they agree
-- afterwards, whatever cuts there are in the power lines after it.
pub record IsDone (s : State) (c : CardState) (m : Move) (w : Manner) (cs : List (ℕ × List ℕ)) (y : List ℕ) : Type 0 where
  pub shows : ShowsSame (step_of s m w) (step_of (play_of c) m (refilled w y))
  pub after : (a : List (List ℕ × ℕ)) → Agrees (recovery_with m.number w cs (step_of s m w).after) (state_in (recovery m.number (refilled w y) (step_of (play_of c) m (refilled w y)).after) a)

-- ---- commands

module _ (n : ℕ) (t : List ℕ) (l : DeckLine) where
  -- a line other than power: it is the card's
  abbrev line_on : Base → ℕ → Journal → Live → ℕ → Armed → Step
  line_on b o j v g a = card_line n l (past_power b o j v g a) v b None

  whole_shows : (b : Base) (o : ℕ) (j : Journal) (v : Live) (g : ℕ) → ShowsSame (line_on b o j v g Unarmed) (line_on b 0 Two v g Unarmed)
  whole_shows b o j v g = grind arith

  whole_after : (b : Base) (o : ℕ) (j : Journal) (v : Live) (g : ℕ) (a : List (List ℕ × ℕ)) → IsStarted v b o → Agrees (line_on b o j v g Unarmed).after (state_in (line_on b 0 Two v g Unarmed).after a)
  whole_after (OnCard c) o j (Running session_state) g a h = grind (arith, line_command c session_state g l)
  whole_after (AtFault cause place) o j (Running session_state) g a h = absurd h
  whole_after (OnCard c) o j Unpowered g a h = absurd h
  whole_after (AtFault cause place) o j Unpowered g a h =
      record { warm = past_power (AtFault cause place) o j Unpowered g Unarmed; is = refl; base = refl; live = refl; budget = refl; unarmed = refl; started = tt }
  whole_after (OnCard c) o j Muted g a h = absurd h
  whole_after (AtFault cause place) o j Muted g a h =
      record { warm = past_power (AtFault cause place) o j Muted g Unarmed; is = refl; base = refl; live = refl; budget = refl; unarmed = refl; started = tt }

  -- a cut
  module _ (c : Card) (session_state : SessionState) (g : ℕ) where
    abbrev done : Command
    done = line_command c session_state g l

    abbrev cut_at : ℕ → List ℕ → StopAt
    cut_at k x = record { kind = stop.Off; at = k; left = x }

    abbrev cut_step : ℕ → Journal → ℕ → List ℕ → Step
    cut_step o j k x = command_step n l (past_power (OnCard c) o j (Running session_state) g (ArmedCut k x)) c done (Some (cut_at k x))

    cut_is : (o : ℕ) (j : Journal) (k : ℕ) (x : List ℕ) → k ≤ moves done.items → line_on (OnCard c) o j (Running session_state) g (ArmedCut k x) ≡ cut_step o j k x
    cut_is o j k x high =
        ap (λ (b : Bool). command_step n l (past_power (OnCard c) o j (Running session_state) g (ArmedCut k x)) c done (cond b (Some (cut_at k x)) None)) (le-leb k (moves done.items) high)

    cut_shows : (o : ℕ) (j i : Journal) (k : ℕ) (x y : List ℕ) → ShowsSame (cut_step o j k x) (cut_step 0 i k y)
    cut_shows o j i k x y = record { result = refl; turns = refl }

    abbrev left_by : ℕ → List ℕ → Base
    left_by k x = OnCard (card_done c (at_stop done.items k x).whole)

    left_same : (k : ℕ) (x y : List ℕ) → OpenAlike x y → left_by k x ≡ left_by k y
    left_same k x y h = ap (λ (is : List Item). OnCard (card_done c is)) (whole_same done.items k x y h)

    -- after a cut, cuts in power lines, and a whole one
    cut_after : (o : ℕ) (j : Journal) (k : ℕ) (x y : List ℕ) (cs : List (ℕ × List ℕ)) (a : List (List ℕ × ℕ)) → OpenAlike x y
        → Agrees (next (after_cuts n cs (cut_step o j k x).after) (n, line.Power)) (state_in (next (cut_step 0 Two k y).after (n, line.Power)) a)
    cut_after o j k x y cs a h =
        let s = stopped_line (past_power (OnCard c) o j (Running session_state) g (ArmedCut k x)) c (cut_at k x) (at_stop done.items k x) in
        let z = stopped_line (past_power (OnCard c) 0 Two (Running session_state) g (ArmedCut k y)) c (cut_at k y) (at_stop done.items k y) in
        let q = cuts_heal n cs s refl in
        let is = whole_power n q.warm q.heals.unarmed in
        subst (λ (e : State). Agrees (next (after_cuts n cs (AfterPower s)) (n, line.Power)) (state_in e a)) (sym (whole_power n z refl)) (record {
          warm = power_after q.warm None;
          is = ap (λ (e : State). next e (n, line.Power)) q.is ∙ is;
          base = q.heals.base ∙ ap (λ (b : Base). base_after_migration b) (left_same k x y h);
          live = q.heals.live;
          budget = q.heals.budget;
          unarmed = refl;
          started = (refl, refl);
        })

    -- and without those cuts another word that opens alike leads to the same state
    cut_same : (o : ℕ) (j : Journal) (k : ℕ) (x y : List ℕ) (a : List (List ℕ × ℕ)) → OpenAlike x y
        → state_in (next (cut_step o j k x).after (n, line.Power)) a ≡ state_in (next (cut_step o j k y).after (n, line.Power)) a
    cut_same o j k x y a h = grind (arith, past_power, whole_power, states_equal, left_same)

-- ---- how the moves that are commands are played

record IsCommand (n : ℕ) (t : List ℕ) (l : DeckLine) : Type 0 where
  whole : (s : Warm) → step_of (AfterPower s) (move_by n t l) Whole ≡ card_line n l s s.live s.base None
  cut : (s : Warm) (k : ℕ) (x : List ℕ) → step_of (AfterPower s) (move_by n t l) (CutAt k x) ≡ card_line n l (record s { armed = ArmedCut k x }) s.live s.base None
  writes : (s : Warm) → writes_of (AfterPower s) (move_by n t l) ≡ moves (card_line n l s s.live s.base None).items

sent_command : (n : ℕ) (t : List ℕ) (sent : DeckCommand) → IsCommand n t (line.Sent sent)
unfolding step moves_of
sent_command n t sent = record { whole = λ s. refl; cut = λ s k x. refl; writes = λ s. omega arith }

-- ---- done in a play and in its state

-- by the steps of the play and of the state
done_by : (s : State) (c : CardState) (m : Move) (w : Manner) (cs : List (ℕ × List ℕ)) (y : List ℕ) (t u : Step) → step_of s m w ≡ t → step_of (play_of c) m (refilled w y) ≡ u → ShowsSame t u
    → ((a : List (List ℕ × ℕ)) → Agrees (recovery_with m.number w cs t.after) (state_in (recovery m.number (refilled w y) u.after) a)) → IsDone s c m w cs y
done_by s c m w cs y t u et eu shows after = grind arith

module _ (n : ℕ) (t : List ℕ) (l : DeckLine) (cmd : IsCommand n t l) where
  abbrev m : Move
  m = move_by n t l

  whole_done : (b : Base) (o : ℕ) (j : Journal) (v : Live) (g : ℕ) (a : List (List ℕ × ℕ)) (cs : List (ℕ × List ℕ)) (y : List ℕ) → IsStarted v b o
      → IsDone (AfterPower (past_power b o j v g Unarmed)) (state_by b v g a) m Whole cs y
  whole_done b o j v g a cs y h = grind (arith, done_by, past_power, state_by, whole_shows, whole_after)

  cut_done : (c : Card) (o : ℕ) (j : Journal) (session_state : SessionState) (g : ℕ) (a : List (List ℕ × ℕ)) (k : ℕ) (x : List ℕ) (cs : List (ℕ × List ℕ)) (y : List ℕ) → OpenAlike x y
      → k ≤ writes_of (AfterPower (past_power (OnCard c) o j (Running session_state) g Unarmed)) m → IsDone (AfterPower (past_power (OnCard c) o j (Running session_state) g Unarmed)) (state_by (OnCard c) (Running session_state) g a) m (CutAt k x) cs y
  cut_done c o j session_state g a k x cs y alike high =
      let within : k ≤ moves (line_command c session_state g l).items = subst (λ (i : ℕ). k ≤ i) (cmd.writes (past_power (OnCard c) o j (Running session_state) g Unarmed)) high in
      done_by (AfterPower (past_power (OnCard c) o j (Running session_state) g Unarmed)) (state_by (OnCard c) (Running session_state) g a) m (CutAt k x) cs y
      (cut_step n t l c session_state g o j k x) (cut_step n t l c session_state g 0 Two k y)
      (cmd.cut (past_power (OnCard c) o j (Running session_state) g Unarmed) k x ∙ cut_is n t l c session_state g o j k x within)
      (cmd.cut (past_power (OnCard c) 0 Two (Running session_state) g Unarmed) k y ∙ cut_is n t l c session_state g 0 Two k y within)
      (cut_shows n t l c session_state g o j Two k x y)
      (λ e. cut_after n t l c session_state g o j k x y cs e alike)

  command_done : (b : Base) (o : ℕ) (j : Journal) (v : Live) (g : ℕ) (a : List (List ℕ × ℕ)) (w : Manner) (cs : List (ℕ × List ℕ)) (y : List ℕ) → FillsAlike w y → IsStarted v b o
      → CanMake (AfterPower (past_power b o j v g Unarmed)) m w → IsDone (AfterPower (past_power b o j v g Unarmed)) (state_by b v g a) m w cs y
  command_done b o j v g a Whole cs y alike h can = whole_done b o j v g a cs y h
  command_done (OnCard c) o j (Running session_state) g a (CutAt k x) cs y alike h can = cut_done c o j session_state g a k x cs y alike can.2
  command_done (AtFault cause place) o j (Running session_state) g a (CutAt k x) cs y alike h can = absurd h
  command_done b o j Unpowered g a (CutAt k x) cs y alike h can = absurd (cc can.0)
  command_done b o j Muted g a (CutAt k x) cs y alike h can = absurd (cc can.0)

  -- the writes of a move are those of the state
  items_same : (b : Base) (o : ℕ) (j : Journal) (v : Live) (g : ℕ) → (line_on n t l b o j v g Unarmed).items ≡ (line_on n t l b 0 Two v g Unarmed).items
  items_same b o j v g = grind arith

  command_can : (b : Base) (o : ℕ) (j : Journal) (v : Live) (g : ℕ) (w : Manner) → CanMake (AfterPower (past_power b o j v g Unarmed)) m w → CanMake (AfterPower (past_power b 0 Two v g Unarmed)) m w
  command_can b o j v g Whole can = tt
  command_can b o j v g (CutAt k x) can =
      grind (arith, cmd.writes (past_power b o j v g Unarmed) ∙ ap (λ (is : List Item). moves is) (items_same b o j v g) ∙ sym (cmd.writes (past_power b 0 Two v g Unarmed)))

  -- a word that a cut leaves, and the fill that does the same
  command_filled : (b : Base) (o : ℕ) (j : Journal) (v : Live) (g k : ℕ) (x : List ℕ) → IsSettled v b o → CanMake (AfterPower (past_power b o j v g Unarmed)) m (CutAt k x)
      → (y : List ℕ) × IsFill y × DoesSame (AfterPower (past_power b o j v g Unarmed)) m k x y
  command_filled (OnCard c) o j (Running session_state) g k x h can =
      let f = fill_for x in
      let r = line_command c session_state g l in
      let s = past_power (OnCard c) o j (Running session_state) g Unarmed in
      let within : k ≤ moves r.items = subst (λ (i : ℕ). k ≤ i) (cmd.writes s) can.2 in
      let ex = cmd.cut s k x ∙ cut_is n t l c session_state g o j k x within in
      let ey = cmd.cut s k f.fill ∙ cut_is n t l c session_state g o j k f.fill within in (
        f.fill,
        f.is,
        record {
          shows = grind arith;
          after = λ a.
              ap (λ (e : Step). state_in (next e.after (n, line.Power)) a) ex
              ∙ cut_same n t l c session_state g o j k x f.fill a f.alike
              ∙ sym (ap (λ (e : Step). state_in (next e.after (n, line.Power)) a) ey);
        },
      )
  command_filled (AtFault cause place) o j (Running session_state) g k x h can = absurd h
  command_filled b o j Unpowered g k x h can = absurd (cc can.0)
  command_filled b o j Muted g k x h can = absurd (cc can.0)

-- ---- power lines

power_shows : (n : ℕ) (before after : State) (b : Base) (o : ℕ) (j : Journal) (v : Live) (g : ℕ) → IsStarted v b o
    → ShowsSame (power_step n before (past_power b o j v g Unarmed) None) (power_step n after (past_power b 0 Two v g Unarmed) None)
power_shows n before after b o j v g h = grind arith

power_started : (b : Base) → IsStarted (power_live b) (base_after_migration b) 0
power_started (OnCard c) = (refl, refl)
power_started (AtFault cause place) = tt

power_whole_is : (n : ℕ) (t : List ℕ) (b : Base) (o : ℕ) (j : Journal) (v : Live) (g : ℕ)
    → step_of (AfterPower (past_power b o j v g Unarmed)) (move_by n t line.Power) Whole ≡ power_step n (AfterPower (past_power b o j v g Unarmed)) (past_power b o j v g Unarmed) None
unfolding step
power_whole_is n t b o j v g = refl

power_none : (n : ℕ) (t : List ℕ) (c : Card) (o : ℕ) (j : Journal) (session_state : SessionState) (g : ℕ) → (o ≡ 0) × (c.layout ≡ 2)
    → writes_of (AfterPower (past_power (OnCard c) o j (Running session_state) g Unarmed)) (move_by n t line.Power) ≡ 0
unfolding step moves_of
power_none n t c o j session_state g h =
    let none : migration (OnCard c) ≡ 0 = ap (λ (i : ℕ). cond (i == 1) 6 0) h.1 in
    let zero : o ≡ 0 = h.0 in
    omega (arith, none, zero)

power_done : (n : ℕ) (t : List ℕ) (b : Base) (o : ℕ) (j : Journal) (v : Live) (g : ℕ) (a : List (List ℕ × ℕ)) (w : Manner) (cs : List (ℕ × List ℕ)) (y : List ℕ) → IsStarted v b o
    → CanMake (AfterPower (past_power b o j v g Unarmed)) (move_by n t line.Power) w → IsDone (AfterPower (past_power b o j v g Unarmed)) (state_by b v g a) (move_by n t line.Power) w cs y
power_done n t b o j v g a Whole cs y h can =
    let s = past_power b o j v g Unarmed in
    let p = past_power b 0 Two v g Unarmed in
    done_by (AfterPower s) (state_by b v g a) (move_by n t line.Power) Whole cs y (power_step n (AfterPower s) s None) (power_step n (AfterPower p) p None)
    (power_whole_is n t b o j v g) (power_whole_is n t b 0 Two v g) (power_shows n (AfterPower s) (AfterPower p) b o j v g h)
    (λ e. record { warm = power_after s None; is = refl; base = refl; live = refl; budget = refl; unarmed = refl; started = power_started b })
power_done n t (OnCard c) o j (Running session_state) g a (CutAt k x) cs y h can =
    absurd (let none = power_none n t c o j session_state g h in let low : 1 ≤ k = can.1 in let high = can.2 in omega (arith, none, low, high))
power_done n t (AtFault cause place) o j (Running session_state) g a (CutAt k x) cs y h can = absurd h
power_done n t b o j Unpowered g a (CutAt k x) cs y h can = absurd (cc can.0)
power_done n t b o j Muted g a (CutAt k x) cs y h can = absurd (cc can.0)

power_can : (n : ℕ) (t : List ℕ) (b : Base) (o : ℕ) (j : Journal) (v : Live) (g : ℕ) (w : Manner) → IsStarted v b o → CanMake (AfterPower (past_power b o j v g Unarmed)) (move_by n t line.Power) w
    → CanMake (AfterPower (past_power b 0 Two v g Unarmed)) (move_by n t line.Power) w
power_can n t b o j v g Whole h can = tt
power_can n t (OnCard c) o j (Running session_state) g (CutAt k x) h can =
    absurd (let none = power_none n t c o j session_state g h in let low : 1 ≤ k = can.1 in let high = can.2 in omega (arith, none, low, high))
power_can n t (AtFault cause place) o j (Running session_state) g (CutAt k x) h can = absurd h
power_can n t b o j Unpowered g (CutAt k x) h can = absurd (cc can.0)
power_can n t b o j Muted g (CutAt k x) h can = absurd (cc can.0)

power_filled : (n : ℕ) (t : List ℕ) (b : Base) (o : ℕ) (j : Journal) (v : Live) (g k : ℕ) (x : List ℕ) → IsSettled v b o
    → CanMake (AfterPower (past_power b o j v g Unarmed)) (move_by n t line.Power) (CutAt k x) → (y : List ℕ) × IsFill y × DoesSame (AfterPower (past_power b o j v g Unarmed)) (move_by n t line.Power) k x y
power_filled n t (OnCard c) o j (Running session_state) g k x h can =
    absurd (let none = power_none n t c o j session_state g h in let low : 1 ≤ k = can.1 in let high = can.2 in omega (arith, none, low, high))
power_filled n t (AtFault cause place) o j (Running session_state) g k x h can = absurd h
power_filled n t b o j Unpowered g k x h can = absurd (cc can.0)
power_filled n t b o j Muted g k x h can = absurd (cc can.0)

-- ---- every move

line_done : (n : ℕ) (t : List ℕ) (l : DeckLine) (b : Base) (o : ℕ) (j : Journal) (v : Live) (g : ℕ) (a : List (List ℕ × ℕ)) (w : Manner) (cs : List (ℕ × List ℕ)) (y : List ℕ) → is_card_line l ≡ true
    → FillsAlike w y → IsStarted v b o → CanMake (AfterPower (past_power b o j v g Unarmed)) (move_by n t l) w → IsDone (AfterPower (past_power b o j v g Unarmed)) (state_by b v g a) (move_by n t l) w cs y
line_done n t line.Power b o j v g a w cs y is alike h can = power_done n t b o j v g a w cs y h can
line_done n t (line.Sent sent) b o j v g a w cs y is alike h can = command_done n t (line.Sent sent) (sent_command n t sent) b o j v g a w cs y alike h can
line_done n t _ b o j v g a w cs y is alike h can = absurd (cc is)

line_can : (n : ℕ) (t : List ℕ) (l : DeckLine) (b : Base) (o : ℕ) (j : Journal) (v : Live) (g : ℕ) (w : Manner) → is_card_line l ≡ true → IsStarted v b o
    → CanMake (AfterPower (past_power b o j v g Unarmed)) (move_by n t l) w → CanMake (AfterPower (past_power b 0 Two v g Unarmed)) (move_by n t l) w
line_can n t l b o j v g w is h can = grind (arith, power_can, command_can, sent_command)

-- the writes of a move on a running card are those of the state
line_writes : (n : ℕ) (t : List ℕ) (l : DeckLine) (c : Card) (o : ℕ) (j : Journal) (session_state : SessionState) (g : ℕ) → is_card_line l ≡ true → (o ≡ 0) × (c.layout ≡ 2)
    → writes_of (AfterPower (past_power (OnCard c) o j (Running session_state) g Unarmed)) (move_by n t l) ≡ writes_of (AfterPower (past_power (OnCard c) 0 Two (Running session_state) g Unarmed)) (move_by n t l)
line_writes n t line.Power c o j session_state g is h = power_none n t c o j session_state g h ∙ sym (power_none n t c 0 Two session_state g (refl, h.1))
line_writes n t (line.Sent sent) c o j session_state g is h = let cmd = sent_command n t sent in cmd.writes (past_power (OnCard c) o j (Running session_state) g Unarmed) ∙ sym (cmd.writes (past_power (OnCard c) 0 Two (Running session_state) g Unarmed))
line_writes n t _ c o j session_state g is h = absurd (cc is)

-- of a running card, started or not at all
started_writes : (n : ℕ) (t : List ℕ) (l : DeckLine) (b : Base) (o : ℕ) (j : Journal) (v : Live) (g : ℕ) → is_card_line l ≡ true → is_running v ≡ true → IsStarted v b o
    → writes_of (AfterPower (past_power b o j v g Unarmed)) (move_by n t l) ≡ writes_of (AfterPower (past_power b 0 Two v g Unarmed)) (move_by n t l)
started_writes n t l (OnCard c) o j (Running session_state) g is on h = line_writes n t l c o j session_state g is h
started_writes n t l (AtFault cause place) o j (Running session_state) g is on h = absurd h
started_writes n t l b o j Unpowered g is on h = absurd (cc on)
started_writes n t l b o j Muted g is on h = absurd (cc on)

-- a play that agrees with a state, by the parts of the state
agrees_is : (s : State) (c : CardState) (h : Agrees s c) → s ≡ AfterPower (past_power c.base h.warm.owed h.warm.by c.live c.budget Unarmed)
agrees_is s c h = h.is ∙ ap (λ (z : Warm). AfterPower z) (warm_is h.warm c.base c.live c.budget h.base h.live h.budget h.unarmed)

-- a move that is made in a play shows what it shows in the state that agrees with it
pub move_done : (s : State) (c : CardState) (m : Move) (w : Manner) (cs : List (ℕ × List ℕ)) (y : List ℕ) → is_card_line m.line ≡ true → FillsAlike w y → Agrees s c → CanMake s m w → IsDone s c m w cs y
move_done s c m w cs y is alike h =
    subst (λ (z : State). CanMake z m w → IsDone z c m w cs y) (sym (agrees_is s c h))
    (line_done m.number m.text m.line c.base h.warm.owed h.warm.by c.live c.budget c.allowances w cs y is alike h.started)

-- on a running card it makes as many writes
pub move_writes : (s : State) (c : CardState) (m : Move) → is_card_line m.line ≡ true → is_running c.live ≡ true → Agrees s c → writes_of s m ≡ writes_of (play_of c) m
move_writes s c m is on h =
    ap (λ (z : State). writes_of z m) (agrees_is s c h) ∙ started_writes m.number m.text m.line c.base h.warm.owed h.warm.by c.live c.budget is on h.started

-- and it can be made there
pub move_can : (s : State) (c : CardState) (m : Move) (w : Manner) → is_card_line m.line ≡ true → Agrees s c → CanMake s m w → CanMake (play_of c) m w
move_can s c m w is h =
    subst (λ (z : State). CanMake z m w → CanMake (play_of c) m w) (sym (agrees_is s c h))
    (line_can m.number m.text m.line c.base h.warm.owed h.warm.by c.live c.budget w is h.started)

-- ---- what is tried

-- a move that is made in a play, and the try of the state that does the same
pub record IsTried (s : State) (c : CardState) (m : Move) (w : Manner) (cs : List (ℕ × List ℕ)) : Type 0 where
  pub fill : List ℕ
  pub among : Among (refilled w fill) (manners c.live (writes_of (play_of c) m))
  pub done : IsDone s c m w cs fill

whole_among : (v : Live) (n : ℕ) → Among Whole (manners v n)
whole_among v n = grind arith

cut_among : (v : Live) (n k : ℕ) (y : List ℕ) → is_running v ≡ true → IsFill y → 1 ≤ k → k ≤ n → Among (CutAt k y) (manners v n)
cut_among (Running session_state) n k y on is low high = inr (cuts_among n 1 k y is low (omega arith))
cut_among Unpowered n k y on is low high = absurd (cc on)
cut_among Muted n k y on is low high = absurd (cc on)

-- each move that is made in a play that agrees with a state is tried in that state
pub action_tried : (s : State) (c : CardState) (m : Move) (w : Manner) (cs : List (ℕ × List ℕ)) → is_card_line m.line ≡ true → Agrees s c → CanMake s m w → IsTried s c m w cs
action_tried s c m Whole cs is h can =
    record { fill = zeros 8; among = whole_among c.live (writes_of (play_of c) m); done = move_done s c m Whole cs (zeros 8) is tt h can }
action_tried s c m (CutAt k x) cs is h can =
    let f = fill_for x in
    let there = move_can s c m (CutAt k x) is h can in
    record {
      fill = f.fill;
      among = cut_among c.live (writes_of (play_of c) m) k f.fill there.0 f.is there.1 there.2;
      done = move_done s c m (CutAt k x) cs f.fill is f.alike h can;
    }

line_filled : (n : ℕ) (t : List ℕ) (l : DeckLine) (b : Base) (o : ℕ) (j : Journal) (v : Live) (g k : ℕ) (x : List ℕ) → is_card_line l ≡ true → IsSettled v b o
    → CanMake (AfterPower (past_power b o j v g Unarmed)) (move_by n t l) (CutAt k x) → (y : List ℕ) × IsFill y × DoesSame (AfterPower (past_power b o j v g Unarmed)) (move_by n t l) k x y
line_filled n t line.Power b o j v g k x is h can = power_filled n t b o j v g k x h can
line_filled n t (line.Sent sent) b o j v g k x is h can = command_filled n t (line.Sent sent) (sent_command n t sent) b o j v g k x h can
line_filled n t _ b o j v g k x is h can = absurd (cc is)

-- every word that a cut leaves does what one of the three fills does
pub fill_law : FillLaw
fill_law s m k x idle is =
    let e : s ≡ past_power s.base s.owed s.by s.live s.budget Unarmed = ap (λ (z : Armed). past_power s.base s.owed s.by s.live s.budget z) idle.unarmed in
    subst (λ (z : Warm). CanMake (AfterPower z) m (CutAt k x) → (y : List ℕ) × IsFill y × DoesSame (AfterPower z) m k x y) (sym e)
    (line_filled m.number m.text m.line s.base s.owed s.by s.live s.budget k x is idle.settled)
