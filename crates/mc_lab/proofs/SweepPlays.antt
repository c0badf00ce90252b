-- The card after a cut in a line, and after one in the recovery after it.
use Rattle.std.specs.Prelude.{◌≡◌, ℕ, ◌-◌, ◌≤◌, Bool, true, false, cond, ◌&&◌, ◌||◌, ◌⊎◌, nat_lt, nat_le, ◌==◌, List, [], ◌∷◌, ◌++◌, Option, Some, None, refl}
use Rattle.std.proofs.Common.{arith, ap, sym, inl, inr, ◌∙◌}
use Rattle.std.proofs.lemmas.Bool.{le-leb}
use Rattle.law_explore.specs.model_device.specs.declared.device.Stop.TheVariants as stop
use Rattle.law_explore.specs.model_device.specs.Image.{Journal, Two}
use Rattle.law_explore.specs.model_device.specs.Stopped.{cost, opens_at, stands}
use Rattle.law_explore.specs.model_device.specs.Card.{Card}
use Rattle.law_explore.specs.model_card.specs.Items.{Item, Plain, Atomic, moves, at_stop, Stopped, StopAt, card_done}
use Rattle.law_explore.specs.model_device.specs.Bytes.{zeros}
use Rattle.law_explore.specs.model_play.specs.Given.{apps_in}
use Rattle.law_explore.specs.model_play.specs.Play.{Armed, Unarmed, ArmedCut, ArmedFail, Live, Running, Unpowered, Muted, Warm, State, BeforePower, AfterPower, step, plays, steady_failures, steady_at, moves_of, armed_stop_in, is_card_line, play_at_power, power_moves, power_step, power_after, stopped_power, hit_of, FailedWrite, card_line, command_step, stopped_line, line_command}
use Rattle.law_explore.specs.model_device.specs.PowerUp.{Base, OnCard, AtFault, base_after_migration}
use Rattle.law_explore.specs.model_card.specs.Commands.{Command}
use Rattle.law_explore.specs.model_play.specs.DeckGrammar.{DeckLine}
use Rattle.law_explore.specs.model_play.specs.DeckGrammar as line
use Rattle.mc_lab.specs.Sweeps.{is_unarmed, steady_step, state_after_lines, state_on_blank, ReportedState, Holds, NoCard, static_bytes_under, state_of_step, state_after_power, ones, cut_statement, power}
use Rattle.mc_lab.specs.SweepBodies.{OpensNoGate}
use Rattle.law_explore.specs.model_play.proofs.LineKinds.{past_power}

-- ---- plays, line by line

-- the state after a line, on a device whose only failed writes are those of `fail` lines
abbrev pub next : State → ℕ × DeckLine → State
next s l = (steady_step s l).after

-- a play of a line and others is the line before the others
pub played_line : (s : State) (l : ℕ × DeckLine) (ls : List (ℕ × DeckLine)) → state_after_lines s (l ∷ ls) ≡ state_after_lines (next s l) ls
unfolding state_after_lines plays steady_failures
played_line s l ls = refl

-- a play of no line is the state as it was
pub played_none : (s : State) → state_after_lines s [] ≡ s
unfolding state_after_lines plays steady_failures
played_none s = refl

-- a play of two lists of lines is one after the other
pub played_append : (s : State) (xs ys : List (ℕ × DeckLine)) → state_after_lines s (xs ++ ys) ≡ state_after_lines (state_after_lines s xs) ys
played_append s [] ys = ap (λ (t : State). state_after_lines t ys) (sym (played_none s))
played_append s (l ∷ xs) ys = played_line s l (xs ++ ys) ∙ played_append (next s l) xs ys ∙ ap (λ (t : State). state_after_lines t ys) (sym (played_line s l xs))

-- one line after others, and two
pub played_one : (front : List (ℕ × DeckLine)) (l : ℕ × DeckLine) → state_on_blank (front ++ l ∷ []) ≡ next (state_on_blank front) l
played_one front l = played_append _ front (l ∷ []) ∙ played_line (state_on_blank front) l [] ∙ played_none _

-- a play of two lines after others is both of them in turn
pub played_two : (front : List (ℕ × DeckLine)) (k l : ℕ × DeckLine) → state_on_blank (front ++ k ∷ l ∷ []) ≡ next (next (state_on_blank front) k) l
played_two front k l = played_append _ front (k ∷ l ∷ []) ∙ played_line (state_on_blank front) k (l ∷ []) ∙ played_line (next (state_on_blank front) k) l [] ∙ played_none _

-- ---- the observed state

-- the base that a power line finds
abbrev pub base_in : State → Base
base_in (BeforePower m b a) = (play_at_power m b a).base
base_in (AfterPower s) = s.base

-- the observed state of a base
abbrev pub shown : List (List ℕ) → Base → ReportedState
shown names (OnCard c) = Holds (static_bytes_under names c.apps)
shown names (AtFault cause place) = NoCard cause place

-- the observed state after a migration is that before it
pub shown_migrated : (names : List (List ℕ)) (b : Base) → shown names (base_after_migration b) ≡ shown names b
shown_migrated names (OnCard c) = refl
shown_migrated names (AtFault cause place) = refl

reported_base : (names : List (List ℕ)) (before : State) (b : Base) (o : ℕ) (j : Journal) (v : Live) (g : ℕ) (a : Armed)
    → state_of_step names (power_step 0 before (record { base = b; owed = o; by = j; live = v; budget = g; armed = a }) None) ≡ shown names b
reported_base names before (OnCard c) o j v g a = refl
reported_base names before (AtFault cause place) o j v g a = refl

reported_warm : (names : List (List ℕ)) (before : State) (s : Warm) (a : Armed) → a ≡ Unarmed → state_of_step names (power_step 0 before s (hit_of a (power_moves s) None)) ≡ shown names s.base
reported_warm names before s a is =
    ap (λ (x : Armed). state_of_step names (power_step 0 before s (hit_of x (power_moves s) None))) is ∙ reported_base names before s.base s.owed s.by s.live s.budget s.armed

-- a power line with no stop shows the observed state of the base
pub reported_state : (names : List (List ℕ)) (s : State) → armed_stop_in s ≡ Unarmed → state_of_step names (steady_step s (0, line.Power)) ≡ shown names (base_in s)
unfolding step
reported_state names (BeforePower m b Unarmed) is = reported_warm names (BeforePower m b Unarmed) (play_at_power m b Unarmed) Unarmed refl
reported_state names (BeforePower m b (ArmedCut k x)) is = absurd (cc is)
reported_state names (BeforePower m b (ArmedFail k)) is = absurd (cc is)
reported_state names (AfterPower s) is =
    ap (λ (w : Option FailedWrite). state_of_step names (power_step 0 (AfterPower s) s (hit_of s.armed (power_moves s) w))) (ap (λ (a : Armed). steady_at a line.Power (moves_of (AfterPower s) (0, line.Power))) is)
    ∙ reported_warm names (AfterPower s) s s.armed is

-- so does a power line after lines
pub reported_lines : (names : List (List ℕ)) (ls : List (ℕ × DeckLine)) (s : State) → state_on_blank ls ≡ s → armed_stop_in s ≡ Unarmed → state_after_power names ls ≡ shown names (base_in s)
unfolding state_after_power
reported_lines names ls s is unarmed = ap (λ (t : State). state_of_step names (steady_step t (0, line.Power))) is ∙ reported_state names s unarmed

-- ---- cuts

-- the base after complete items
abbrev pub base_done : Base → List Item → Base
base_done (OnCard c) is = OnCard (card_done c is)
base_done (AtFault cause place) is = AtFault cause place

-- no item leaves the observed state
pub shown_none : (names : List (List ℕ)) (b : Base) → shown names (base_done b []) ≡ shown names b
shown_none names (OnCard c) = refl
shown_none names (AtFault cause place) = refl

-- a word of zeros opens no gate
pub zeros_shut : OpensNoGate (zeros 8)
zeros_shut = refl

-- a word of ones opens no gate
pub ones_shut : OpensNoGate ones
ones_shut = refl

-- the items that are complete do not depend on a word that opens no gate
stands_same : (w k : ℕ) (x y : List ℕ) → OpensNoGate x → OpensNoGate y → stands Two w k x ≡ stands Two w k y
stands_same w k x y hx hy = ap (λ (b : Bool). nat_lt (opens_at Two w) k || ((k == opens_at Two w) && b)) (hx ∙ sym hy)

either_whole : (b : Bool) (s t u v : Stopped) → s.whole ≡ u.whole → t.whole ≡ v.whole → (cond b s t).whole ≡ (cond b u v).whole
either_whole true s t u v first second = first
either_whole false s t u v first second = second

-- a cut leaves the same items whole with any word that opens no gate
pub whole_same : (is : List Item) (k : ℕ) (x y : List ℕ) → OpensNoGate x → OpensNoGate y → (at_stop is k x).whole ≡ (at_stop is k y).whole
whole_same [] k x y hx hy = refl
whole_same (Plain ∷ is) k x y hx hy = either_whole (k == 1) _ _ _ _ refl (ap (λ (js : List Item). Plain ∷ js) (whole_same is (k - 1) x y hx hy))
whole_same (Atomic w c ∷ is) k x y hx hy =
    either_whole (nat_le k (cost Two w)) _ _ _ _
    (ap (λ (b : Bool). cond b (Atomic w c ∷ []) []) (stands_same w k x y hx hy))
    (ap (λ (js : List Item). Atomic w c ∷ js) (whole_same is (k - cost Two w) x y hx hy))

-- the state after a cut in a line: no stop is armed, and the observed state is that of its complete items
pub record CutTo (s : State) (is : List Item) (t : State) : Type 0 where
  pub warm : Warm
  pub state : t ≡ AfterPower warm
  pub unarmed : warm.armed ≡ Unarmed
  pub reported : (names : List (List ℕ)) → shown names warm.base ≡ shown names (base_done (base_in s) is)

abbrev cut_at : ℕ → List ℕ → StopAt
cut_at k x = record { kind = stop.Off; at = k; left = x }

command_cut : (n : ℕ) (l : DeckLine) (c : Card) (o : ℕ) (j : Journal) (v : Live) (g k : ℕ) (x : List ℕ) (r : Command) → OpensNoGate x → (b : Bool) → b ≡ true
    → CutTo (AfterPower (past_power (OnCard c) o j v g Unarmed)) (at_stop r.items k (zeros 8)).whole (command_step n l (past_power (OnCard c) o j v g (ArmedCut k x)) c r (cond b (Some (cut_at k x)) None)).after
command_cut n l c o j v g k x r shuts true is =
    record {
      warm = stopped_line (past_power (OnCard c) o j v g (ArmedCut k x)) c (cut_at k x) (at_stop r.items k x);
      state = refl;
      unarmed = refl;
      reported = λ names. ap (λ (js : List Item). shown names (OnCard (card_done c js))) (whole_same r.items k x (zeros 8) shuts zeros_shut);
    }
command_cut n l c o j v g k x r shuts false is = absurd (cc is)

card_cut : (n : ℕ) (l : DeckLine) (b : Base) (o : ℕ) (j : Journal) (v : Live) (g k : ℕ) (x : List ℕ) → OpensNoGate x → 1 ≤ k → k ≤ moves (card_line n l (past_power b o j v g Unarmed) v b None).items
    → CutTo (AfterPower (past_power b o j v g Unarmed)) (at_stop (card_line n l (past_power b o j v g Unarmed) v b None).items k (zeros 8)).whole (card_line n l (past_power b o j v g (ArmedCut k x)) v b None).after
card_cut n l (OnCard c) o j (Running session_state) g k x shuts low high =
    let r = line_command c session_state g l in
    command_cut n l c o j (Running session_state) g k x r shuts (nat_le k (moves r.items)) (le-leb k (moves r.items) high)
card_cut n l (AtFault cause place) o j (Running session_state) g k x shuts low high = absurd (omega arith)
card_cut n l b o j Unpowered g k x shuts low high = absurd (omega arith)
card_cut n l b o j Muted g k x shuts low high = absurd (omega arith)

stopped_unarmed : (s : Warm) (t : StopAt) (b : Bool) → (stopped_power s t b).armed ≡ Unarmed
stopped_unarmed s t true = refl
stopped_unarmed s t false = refl

power_cut : (s : State) (w : Warm) (before : State) (n k : ℕ) (x : List ℕ) → w.base ≡ base_in s → (b : Bool) → b ≡ true → CutTo s [] (power_step n before w (cond b (Some (cut_at k x)) None)).after
power_cut s w before n k x same true is = grind (arith, cut_at k x)
power_cut s w before n k x same false is = absurd (cc is)

-- a line before the first power line
pub warmed_moves : (m : List (List ℕ)) (b : ℕ) (a c : Armed) → power_moves (play_at_power m b a) ≡ power_moves (play_at_power m b c)
unfolding play_at_power
warmed_moves m b a c = refl

warmed_base : (m : List (List ℕ)) (b : ℕ) (a c : Armed) → (play_at_power m b a).base ≡ (play_at_power m b c).base
unfolding play_at_power
warmed_base m b a c = refl

before_power_cut : (n i : ℕ) (l : DeckLine) (m : List (List ℕ)) (b k : ℕ) (x : List ℕ) → is_card_line l ≡ true → OpensNoGate x → 1 ≤ k → k ≤ moves_of (BeforePower m b Unarmed) (n, l)
    → CutTo (BeforePower m b Unarmed) (at_stop (step (BeforePower m b Unarmed) (n, l) None).items k (zeros 8)).whole (next (next (BeforePower m b Unarmed) (cut_statement i k x)) (n, l))
unfolding step moves_of
before_power_cut n i line.Power m b k x is shuts low high =
    let w = play_at_power m b (ArmedCut k x) in
    power_cut (BeforePower m b Unarmed) w (BeforePower m b (ArmedCut k x)) n k x (warmed_base m b (ArmedCut k x) Unarmed) (nat_le k (power_moves w))
    (le-leb k (power_moves w) (let e : power_moves w ≡ power_moves (play_at_power m b Unarmed) = warmed_moves m b (ArmedCut k x) Unarmed in omega (arith, e)))
before_power_cut n i (line.Sent sent) m b k x is shuts low high = absurd (omega arith)
before_power_cut n i _ m b k x is shuts low high = absurd (cc is)

-- a line after the first power line
after_power_cut : (n i : ℕ) (l : DeckLine) (b : Base) (o : ℕ) (j : Journal) (v : Live) (g k : ℕ) (x : List ℕ) → is_card_line l ≡ true → OpensNoGate x → 1 ≤ k → k ≤ moves_of (AfterPower (past_power b o j v g Unarmed)) (n, l)
    → CutTo (AfterPower (past_power b o j v g Unarmed)) (at_stop (step (AfterPower (past_power b o j v g Unarmed)) (n, l) None).items k (zeros 8)).whole (next (next (AfterPower (past_power b o j v g Unarmed)) (cut_statement i k x)) (n, l))
unfolding step moves_of
after_power_cut n i line.Power b o j v g k x is shuts low high =
    let w = past_power b o j v g (ArmedCut k x) in
    power_cut (AfterPower (past_power b o j v g Unarmed)) w (AfterPower w) n k x refl (nat_le k (power_moves w)) (le-leb k (power_moves w) (omega arith))
after_power_cut n i (line.Sent sent) b o j v g k x is shuts low high = card_cut n (line.Sent sent) b o j v g k x shuts low (omega arith)
after_power_cut n i _ b o j v g k x is shuts low high = absurd (cc is)

armed_cut : (n i : ℕ) (l : DeckLine) (b : Base) (o : ℕ) (j : Journal) (v : Live) (g : ℕ) (a : Armed) (k : ℕ) (x : List ℕ) → a ≡ Unarmed → is_card_line l ≡ true → OpensNoGate x → 1 ≤ k → k ≤ moves_of (AfterPower (past_power b o j v g a)) (n, l)
    → CutTo (AfterPower (past_power b o j v g a)) (at_stop (step (AfterPower (past_power b o j v g a)) (n, l) None).items k (zeros 8)).whole (next (next (AfterPower (past_power b o j v g a)) (cut_statement i k x)) (n, l))
armed_cut n i l b o j v g a k x is card shuts low high = grind (arith, after_power_cut)

-- any line for which no stop is armed, with its write `k` cut
pub line_cut : (s : State) (l : ℕ × DeckLine) (i k : ℕ) (x : List ℕ) → armed_stop_in s ≡ Unarmed → is_card_line l.1 ≡ true → OpensNoGate x → 1 ≤ k → k ≤ moves_of s l
    → CutTo s (at_stop (step s l None).items k (zeros 8)).whole (next (next s (cut_statement i k x)) l)
line_cut s l i k x is card shuts low high = grind (arith, before_power_cut, armed_cut)

-- ---- a line that was not cut

power_whole : (s : State) (w : Warm) (before : State) (n : ℕ) → w.base ≡ base_in s → CutTo s [] (power_step n before w None).after
power_whole s w before n same =
    record {
      warm = power_after w None;
      state = refl;
      unarmed = refl;
      reported = λ names. shown_migrated names w.base ∙ ap (λ (b : Base). shown names b) same ∙ sym (shown_none names (base_in s));
    }

card_whole : (n : ℕ) (l : DeckLine) (b : Base) (o : ℕ) (j : Journal) (v : Live) (g : ℕ) → 1 ≤ moves (card_line n l (past_power b o j v g Unarmed) v b None).items
    → CutTo (AfterPower (past_power b o j v g Unarmed)) (card_line n l (past_power b o j v g Unarmed) v b None).items (card_line n l (past_power b o j v g Unarmed) v b None).after
card_whole n l (OnCard c) o j (Running session_state) g some = grind (arith, line_command c session_state g l)
card_whole n l (AtFault cause place) o j (Running session_state) g some = absurd (omega arith)
card_whole n l b o j Unpowered g some = absurd (omega arith)
card_whole n l b o j Muted g some = absurd (omega arith)

before_power_whole : (n : ℕ) (l : DeckLine) (m : List (List ℕ)) (b : ℕ) → is_card_line l ≡ true → 1 ≤ moves_of (BeforePower m b Unarmed) (n, l)
    → CutTo (BeforePower m b Unarmed) (step (BeforePower m b Unarmed) (n, l) None).items (next (BeforePower m b Unarmed) (n, l))
unfolding step moves_of
before_power_whole n line.Power m b is some = power_whole (BeforePower m b Unarmed) (play_at_power m b Unarmed) (BeforePower m b Unarmed) n refl
before_power_whole n (line.Sent sent) m b is some = absurd (omega arith)
before_power_whole n _ m b is some = absurd (cc is)

after_power_whole : (n : ℕ) (l : DeckLine) (b : Base) (o : ℕ) (j : Journal) (v : Live) (g : ℕ) → is_card_line l ≡ true → 1 ≤ moves_of (AfterPower (past_power b o j v g Unarmed)) (n, l)
    → CutTo (AfterPower (past_power b o j v g Unarmed)) (step (AfterPower (past_power b o j v g Unarmed)) (n, l) None).items (next (AfterPower (past_power b o j v g Unarmed)) (n, l))
unfolding step moves_of
after_power_whole n line.Power b o j v g is some = power_whole (AfterPower (past_power b o j v g Unarmed)) (past_power b o j v g Unarmed) (AfterPower (past_power b o j v g Unarmed)) n refl
after_power_whole n (line.Sent sent) b o j v g is some = card_whole n (line.Sent sent) b o j v g (omega arith)
after_power_whole n _ b o j v g is some = absurd (cc is)

armed_whole : (n : ℕ) (l : DeckLine) (b : Base) (o : ℕ) (j : Journal) (v : Live) (g : ℕ) (a : Armed) → a ≡ Unarmed → is_card_line l ≡ true → 1 ≤ moves_of (AfterPower (past_power b o j v g a)) (n, l)
    → CutTo (AfterPower (past_power b o j v g a)) (step (AfterPower (past_power b o j v g a)) (n, l) None).items (next (AfterPower (past_power b o j v g a)) (n, l))
armed_whole n l b o j v g a is card some = grind (arith, after_power_whole)

-- any line for which no stop is armed
pub line_whole : (s : State) (l : ℕ × DeckLine) → armed_stop_in s ≡ Unarmed → is_card_line l.1 ≡ true → 1 ≤ moves_of s l → CutTo s (step s l None).items (next s l)
line_whole (BeforePower m b Unarmed) l is card some = before_power_whole l.0 l.1 m b card some
line_whole (BeforePower m b (ArmedCut h y)) l is card some = absurd (cc is)
line_whole (BeforePower m b (ArmedFail h)) l is card some = absurd (cc is)
line_whole (AfterPower s) l is card some = armed_whole l.0 l.1 s.base s.owed s.by s.live s.budget s.armed is card some

-- ---- the items of a line, and the applications that they change

-- the items of a line: there are none, or they are done on a card with these applications and make the device writes of
-- the line
abbrev pub ItemsOn : State → ℕ × DeckLine → Type 0
ItemsOn s l = ((step s l None).items ≡ []) ⊎ ((c : Card) × (base_in s ≡ OnCard c) × (apps_in s ≡ c.apps) × (moves_of s l ≡ moves (step s l None).items))

card_items : (n : ℕ) (l : DeckLine) (b : Base) (o : ℕ) (j : Journal) (v : Live) (g : ℕ) (a : Armed)
    → ((card_line n l (past_power b o j v g a) v b None).items ≡ []) ⊎ ((c : Card) × (b ≡ OnCard c) × (apps_in (AfterPower (past_power b o j v g a)) ≡ c.apps))
card_items n l b o j v g a = grind arith

-- the items of a line on a running card
card_on : (n : ℕ) (l : DeckLine) (s : Warm) (items : List Item) (m : ℕ) → m ≡ moves items → (items ≡ []) ⊎ ((c : Card) × (s.base ≡ OnCard c) × (apps_in (AfterPower s) ≡ c.apps))
    → (items ≡ []) ⊎ ((c : Card) × (s.base ≡ OnCard c) × (apps_in (AfterPower s) ≡ c.apps) × (m ≡ moves items))
card_on n l s items m e (inl none) = inl none
card_on n l s items m e (inr some) = inr (some.0, some.1, some.2, e)

before_power_on : (n : ℕ) (l : DeckLine) (m : List (List ℕ)) (b : ℕ) (a : Armed) → ItemsOn (BeforePower m b a) (n, l)
unfolding step moves_of
before_power_on n line.Power m b a = inl refl
before_power_on n _ m b a = inl refl

after_power_on : (n : ℕ) (l : DeckLine) (s : Warm) → ItemsOn (AfterPower s) (n, l)
unfolding step moves_of
after_power_on n (line.Sent sent) s = card_on n (line.Sent sent) s _ _ (omega arith) (card_items n (line.Sent sent) s.base s.owed s.by s.live s.budget s.armed)
after_power_on n _ s = inl refl

-- a line makes no item, or those of the card that it is played on
pub items_on : (s : State) (l : ℕ × DeckLine) → ItemsOn s l
items_on (BeforePower m b a) l = before_power_on l.0 l.1 m b a
items_on (AfterPower s) l = after_power_on l.0 l.1 s

-- a power line has no items
pub power_items : (s : Warm) (n : ℕ) → (step (AfterPower s) (power n) None).items ≡ []
unfolding step
power_items s n = refl

-- a stop that the test finds unarmed is not armed
pub unarmed_is : (a : Armed) → is_unarmed a ≡ true → a ≡ Unarmed
unarmed_is a h = grind arith
