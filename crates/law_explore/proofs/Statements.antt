-- The statements of a broken rule, appended to their deck, play to where their tries lead.
use Rattle.std.specs.Prelude.{◌≡◌, ℕ, ◌≤◌, Bool, true, false, cond, nat_le, List, [], ◌∷◌, ◌++◌, map, Option, Some, None, ⊤, refl}
use Rattle.std.specs.List.{AllByRecursion}
use Rattle.std.proofs.Common.{ap, sym, ◌∙◌, arith}
use Rattle.std.proofs.lemmas.Bool.{lt-leb}
use Rattle.std.proofs.lemmas.List.{append_assoc}
use Rattle.model_play.specs.model_device.specs.declared.device.Stop.TheVariants as stop
use Rattle.model_play.specs.model_device.specs.Bytes.{zeros}
use Rattle.model_play.specs.model_device.specs.Image.{Journal}
use Rattle.model_play.specs.model_device.specs.Device.{blank_words, device_words}
use Rattle.model_play.specs.model_device.specs.Card.{Card}
use Rattle.model_play.specs.model_device.specs.Layout.{fault}
use Rattle.model_play.specs.model_device.specs.PowerUp.{Base, OnCard, AtFault, base_of}
use Rattle.model_play.specs.model_card.specs.Items.{StopAt}
use Rattle.model_play.specs.model_card.specs.Commands.{Command, refusal, command}
use Rattle.model_play.specs.model_machine.specs.Apdu.{apdu_read}
use Rattle.model_play.specs.DeckGrammar.{DeckLine}
use Rattle.model_play.specs.DeckGrammar as line
use Rattle.model_play.specs.Family.{is_running}
use Rattle.model_play.specs.Play.{Armed, Unarmed, ArmedCut, ArmedFail, Live, Running, Unpowered, Muted, Warm, State, BeforePower, AfterPower, FailedWrite, step, card_line, line_after, hit_of, power_moves, stopped_power, is_card_line, moves_of, armed_stop_in, steady_at, steady_failures, plays, start, last_state, play_at_power, power_after}
use Rattle.law_explore.specs.Rules.{Move}
use Rattle.law_explore.specs.States.{warm_in, play_of_deck, running_or_powered, first_warm, first_play}
use Rattle.law_explore.specs.Tries.{Manner, Whole, CutAt, Try, next, step_of, recovery}
use Rattle.law_explore.specs.Search.{Statement, cut_statement, power_statement, move_statements, path_statements, is_cut, drop_statements, lead_statements, statements_to}
use Rattle.law_explore.specs.Safety.{after_tries, CountsFromOne, StatementsLaw}
use Rattle.model_play.proofs.LineKinds.{past_power}

-- ---- plays line by line

-- the play of lines from a state on, on a device that refuses just the writes of `fail` lines
abbrev played : State → List (ℕ × DeckLine) → State
played s ls = last_state s (plays s ls (steady_failures s ls))

-- one line on it
abbrev steady_next : State → ℕ × DeckLine → State
steady_next s l = (step s l (steady_at (armed_stop_in s) l.1 (moves_of s l))).after

played_line : (s : State) (l : ℕ × DeckLine) (ls : List (ℕ × DeckLine)) → played s (l ∷ ls) ≡ played (steady_next s l) ls
unfolding plays steady_failures
played_line s l ls = refl

played_none : (s : State) → played s [] ≡ s
unfolding plays steady_failures
played_none s = refl

played_append : (s : State) (xs ys : List (ℕ × DeckLine)) → played s (xs ++ ys) ≡ played (played s xs) ys
played_append s [] ys = ap (λ (t : State). played t ys) (sym (played_none s))
played_append s (l ∷ xs) ys = played_line s l (xs ++ ys) ∙ played_append (steady_next s l) xs ys ∙ ap (λ (t : State). played t ys) (sym (played_line s l xs))

deck_append : (ls ms : List (ℕ × DeckLine)) → play_of_deck (ls ++ ms) ≡ played (play_of_deck ls) ms
unfolding play_of_deck
deck_append ls ms = played_append (start (blank_words device_words)) ls ms

-- if no failed write is armed, no write fails
abbrev IsSteady : Armed → Type 0
IsSteady Unarmed = ⊤
IsSteady (ArmedCut k x) = ⊤
IsSteady (ArmedFail k) = ⊥

no_failure : (a : Armed) (l : DeckLine) (m : ℕ) → IsSteady a → steady_at a l m ≡ None
no_failure a l m h = grind arith

steady_line : (s : State) (l : ℕ × DeckLine) → IsSteady (armed_stop_in s) → steady_next s l ≡ next s l
steady_line s l h = ap (λ (w : Option FailedWrite). (step s l w).after) (no_failure (armed_stop_in s) l.1 (moves_of s l) h)

-- ---- a line leaves the same whatever its number

card_number : (n m : ℕ) (l : DeckLine) (b : Base) (o : ℕ) (j : Journal) (v : Live) (g : ℕ) (a : Armed) → (card_line n l (past_power b o j v g a) v b None).after ≡ (card_line m l (past_power b o j v g a) v b None).after
card_number n m l b o j v g a = grind arith

any_number : (n m : ℕ) (s : Warm) (l : DeckLine) → next (AfterPower s) (n, l) ≡ next (AfterPower s) (m, l)
unfolding step
any_number n m s (line.Sent sent) = card_number n m (line.Sent sent) s.base s.owed s.by s.live s.budget s.armed
any_number n m s _ = refl

-- ---- lines to the card drop the stop

-- a play from its first power line on, with no stop armed
record IsFree (z : State) : Type 0 where
  warm : Warm
  is : z ≡ AfterPower warm
  unarmed : warm.armed ≡ Unarmed

line_frees : (s : Warm) (c : Card) (r : Command) (t : Option StopAt) → IsFree (AfterPower (line_after s c r t))
line_frees s c r None = record { warm = line_after s c r None; is = refl; unarmed = refl }
line_frees s c r (Some t) = record { warm = line_after s c r (Some t); is = refl; unarmed = refl }

card_frees : (n : ℕ) (l : DeckLine) (b : Base) (o : ℕ) (j : Journal) (v : Live) (g : ℕ) (a : Armed) → IsFree (card_line n l (past_power b o j v g a) v b None).after
card_frees n l (OnCard c) o j (Running session_state) g a = grind (arith, line_frees, past_power)
card_frees n l (AtFault cause place) o j (Running session_state) g a = record { warm = past_power (AtFault cause place) o j (Running session_state) g Unarmed; is = refl; unarmed = refl }
card_frees n l b o j Unpowered g a = record { warm = past_power b o j Unpowered g Unarmed; is = refl; unarmed = refl }
card_frees n l b o j Muted g a = record { warm = past_power b o j Muted g Unarmed; is = refl; unarmed = refl }

stopped_frees : (s : Warm) (t : StopAt) (b : Bool) → IsFree (AfterPower (stopped_power s t b))
stopped_frees s t true = record { warm = stopped_power s t true; is = refl; unarmed = refl }
stopped_frees s t false = record { warm = stopped_power s t false; is = refl; unarmed = refl }

power_frees : (s : Warm) (t : Option StopAt) → IsFree (AfterPower (power_after s t))
power_frees s None = record { warm = power_after s None; is = refl; unarmed = refl }
power_frees s (Some t) = stopped_frees s t (nat_le t.at s.owed)

frees : (n : ℕ) (l : DeckLine) (s : Warm) → is_card_line l ≡ true → IsFree (next (AfterPower s) (n, l))
unfolding step
frees n line.Power s is = power_frees s (hit_of s.armed (power_moves s) None)
frees n (line.Sent sent) s is = card_frees n (line.Sent sent) s.base s.owed s.by s.live s.budget s.armed
frees n _ s is = absurd (cc is)

-- ---- the statements of a try

abbrev lines_of : ℕ → List Statement → List (ℕ × DeckLine)
lines_of n ss = map (λ l. (n, l.1)) ss

-- a statement, and those after it
one_plays : (n i : ℕ) (s : Warm) (l : Statement) (rest : List Statement) (z : State) → IsSteady s.armed → next (AfterPower s) (i, l.1) ≡ z → played (AfterPower s) (lines_of n (l ∷ rest)) ≡ played z (lines_of n rest)
one_plays n i s l rest z h e =
    played_line (AfterPower s) (n, l.1) (lines_of n rest) ∙ ap (λ (y : State). played y (lines_of n rest)) (steady_line (AfterPower s) (n, l.1) h ∙ any_number n i s l.1 ∙ e)

free_steady : (a : Armed) → a ≡ Unarmed → IsSteady a
free_steady a e = grind arith

-- the play after a try, by its statements
record TryPlays (n : ℕ) (w : Manner) (m : Move) (s : Warm) : Type 0 where
  warm : Warm
  unarmed : warm.armed ≡ Unarmed
  is : recovery m.number w (step_of (AfterPower s) m w).after ≡ AfterPower warm
  plays : (rest : List Statement) → played (AfterPower s) (lines_of n (move_statements w m ++ rest)) ≡ played (AfterPower warm) (lines_of n rest)

-- a cut that is armed
abbrev cut_armed : Warm → ℕ → List ℕ → Warm
cut_armed s k x = record s { armed = ArmedCut k x }

cut_next : (n k : ℕ) (x : List ℕ) (s : Warm) → next (AfterPower s) (n, line.Cut k x) ≡ AfterPower (cut_armed s k x)
unfolding step
cut_next n k x s = refl

try_plays : (n : ℕ) (w : Manner) (m : Move) (s : Warm) → is_card_line m.line ≡ true → s.armed ≡ Unarmed → TryPlays n w m s
try_plays n Whole m s is e =
    let f = frees m.number m.line s is in
    record { warm = f.warm; unarmed = f.unarmed; is = f.is; plays = λ rest. one_plays n m.number s (m.text, m.line) rest (AfterPower f.warm) (free_steady s.armed e) f.is }
try_plays n (CutAt k x) m s is e =
    let c = cut_armed s k x in
    let f = frees m.number m.line c is in
    let p = frees m.number line.Power f.warm refl in
    record {
      warm = p.warm;
      unarmed = p.unarmed;
      is = ap (λ (z : State). next (next z (m.number, m.line)) (m.number, line.Power)) (cut_next m.number k x s) ∙ ap (λ (z : State). next z (m.number, line.Power)) f.is ∙ p.is;
      plays = λ rest.
          one_plays n m.number s (cut_statement k x) ((m.text, m.line) ∷ power_statement ∷ rest) (AfterPower c) (free_steady s.armed e) (cut_next m.number k x s)
          ∙ one_plays n m.number c (m.text, m.line) (power_statement ∷ rest) (AfterPower f.warm) tt f.is
          ∙ one_plays n m.number f.warm power_statement rest (AfterPower p.warm) (free_steady (f.warm).armed f.unarmed) p.is;
    }

path_plays : (n : ℕ) (ts : List Try) (s : Warm) → s.armed ≡ Unarmed → AllByRecursion (λ u. is_card_line u.move.line ≡ true) ts → played (AfterPower s) (lines_of n (path_statements ts)) ≡ after_tries (AfterPower s) ts
path_plays n [] s e cards = played_none (AfterPower s)
path_plays n (t ∷ ts) s e cards =
    let p = try_plays n t.manner t.move s cards.0 e in
    p.plays (path_statements ts) ∙ path_plays n ts p.warm p.unarmed cards.1 ∙ ap (λ (z : State). after_tries z ts) (sym p.is)

-- ---- the statements before them

-- a command that is too short drops the stop, and nothing else
no_cut : (k : ℕ) (t : StopAt) → 1 ≤ k → cond (nat_le k 0) (Some t) None ≡ None
no_cut k t low = ap (λ (b : Bool). cond b (Some t) None) (lt-leb k 0 low)

idle_drops : (n : ℕ) (b : Base) (o : ℕ) (j : Journal) (v : Live) (g : ℕ) (a : Armed) → CountsFromOne a → steady_next (AfterPower (past_power b o j v g a)) (n, line.Sent (line.Apdu (0 ∷ []))) ≡ AfterPower (past_power b o j v g Unarmed)
unfolding step moves_of command apdu_read
idle_drops n (OnCard c) o j (Running session_state) g Unarmed h = refl
idle_drops n (OnCard c) o j (Running session_state) g (ArmedCut k x) h =
    ap (λ (t : Option StopAt). AfterPower (line_after (past_power (OnCard c) o j (Running session_state) g (ArmedCut k x)) c (refusal session_state 0x6700) t)) (no_cut k (record { kind = stop.Off; at = k; left = x }) h)
idle_drops n (OnCard c) o j (Running session_state) g (ArmedFail k) h =
    ap (λ (e : Bool). (card_line n (line.Sent (line.Apdu (0 ∷ []))) (past_power (OnCard c) o j (Running session_state) g (ArmedFail k)) (Running session_state) (OnCard c) (cond e (Some (record { at = k; left = zeros 8 })) None)).after) (lt-leb k 0 h)
idle_drops n (AtFault cause place) o j (Running session_state) g a h = refl
idle_drops n b o j Unpowered g a h = refl
idle_drops n b o j Muted g a h = refl

dropping_plays : (n : ℕ) (b : Base) (o : ℕ) (j : Journal) (v : Live) (g : ℕ) (a : Armed) (rest : List Statement) → CountsFromOne a
    → played (AfterPower (past_power b o j v g a)) (lines_of n (drop_statements a ++ rest)) ≡ played (AfterPower (past_power b o j v g Unarmed)) (lines_of n rest)
dropping_plays n b o j v g a rest h = grind (arith, played_line, past_power, idle_drops)

-- before the first power line
before_power_drops : (n : ℕ) (m : List (List ℕ)) (g : ℕ) (a : Armed) → steady_next (BeforePower m g a) (n, line.Sent (line.Apdu (0 ∷ []))) ≡ BeforePower m g Unarmed
unfolding step
before_power_drops n m g a = refl

before_power_dropping : (n : ℕ) (m : List (List ℕ)) (g : ℕ) (a : Armed) (rest : List Statement) → played (BeforePower m g a) (lines_of n (drop_statements a ++ rest)) ≡ played (BeforePower m g Unarmed) (lines_of n rest)
before_power_dropping n m g a rest = grind (arith, played_line, before_power_drops)

before_power_power : (n : ℕ) (m : List (List ℕ)) (g : ℕ) → steady_next (BeforePower m g Unarmed) (n, line.Power) ≡ AfterPower (power_after (play_at_power m g Unarmed) None)
unfolding step
before_power_power n m g = refl

power_next : (n : ℕ) (b : Base) (o : ℕ) (j : Journal) (v : Live) (g : ℕ) → steady_next (AfterPower (past_power b o j v g Unarmed)) (n, line.Power) ≡ AfterPower (power_after (past_power b o j v g Unarmed) None)
unfolding step
power_next n b o j v g = refl

-- a cut takes the place of a stop that is armed
cut_replaces : (n k : ℕ) (x : List ℕ) (b : Base) (o : ℕ) (j : Journal) (v : Live) (g : ℕ) (a : Armed) → steady_next (AfterPower (past_power b o j v g a)) (n, line.Cut k x) ≡ AfterPower (past_power b o j v g (ArmedCut k x))
unfolding step
cut_replaces n k x b o j v g Unarmed = refl
cut_replaces n k x b o j v g (ArmedCut h y) = refl
cut_replaces n k x b o j v g (ArmedFail h) = refl

-- what leads to the first state, and the statements of a try after it
LeadPlays : ℕ → State → Live → Base → Armed → Warm → Manner → Move → List Statement → Type 0
LeadPlays n z v b a first w m rest =
    played z (lines_of n (lead_statements v b a (is_cut w) ++ (move_statements w m ++ rest))) ≡ played (AfterPower first) (lines_of n (move_statements w m ++ rest))

-- if a power line has to make a card run
powered_lead : (n : ℕ) (z y : State) (a : Armed) (s : Warm) (more : List Statement) → ((rest : List Statement) → played z (lines_of n (drop_statements a ++ rest)) ≡ played y (lines_of n rest))
    → steady_next y (n, line.Power) ≡ AfterPower s → played z (lines_of n ((drop_statements a ++ power_statement ∷ []) ++ more)) ≡ played (AfterPower s) (lines_of n more)
powered_lead n z y a s more drops power = grind (arith, append_assoc, played_line)

after_power_lead : (n : ℕ) (b : Base) (o : ℕ) (j : Journal) (v : Live) (g : ℕ) (a : Armed) (w : Manner) (m : Move) (rest : List Statement) → CountsFromOne a → is_running (first_warm (past_power b o j v g a)).live ≡ true
    → LeadPlays n (AfterPower (past_power b o j v g a)) v b a (first_warm (past_power b o j v g a)) w m rest
unfolding LeadPlays
after_power_lead n b o j (Running session_state) g a Whole m rest h on = dropping_plays n b o j (Running session_state) g a (move_statements Whole m ++ rest) h
after_power_lead n b o j (Running session_state) g a (CutAt k x) m rest h on =
    let more = (m.text, m.line) ∷ power_statement ∷ rest in
    played_line (AfterPower (past_power b o j (Running session_state) g a)) (n, line.Cut k x) (lines_of n more)
    ∙ ap (λ (z : State). played z (lines_of n more)) (cut_replaces n k x b o j (Running session_state) g a ∙ sym (cut_replaces n k x b o j (Running session_state) g Unarmed))
    ∙ sym (played_line (AfterPower (past_power b o j (Running session_state) g Unarmed)) (n, line.Cut k x) (lines_of n more))
after_power_lead n (OnCard c) o j Unpowered g a w m rest h on =
    powered_lead n (AfterPower (past_power (OnCard c) o j Unpowered g a)) (AfterPower (past_power (OnCard c) o j Unpowered g Unarmed)) a (first_warm (past_power (OnCard c) o j Unpowered g a)) (move_statements w m ++ rest)
    (λ more. dropping_plays n (OnCard c) o j Unpowered g a more h) (power_next n (OnCard c) o j Unpowered g)
after_power_lead n (AtFault cause place) o j Unpowered g a w m rest h on = absurd (cc on)
after_power_lead n (OnCard c) o j Muted g a w m rest h on =
    powered_lead n (AfterPower (past_power (OnCard c) o j Muted g a)) (AfterPower (past_power (OnCard c) o j Muted g Unarmed)) a (first_warm (past_power (OnCard c) o j Muted g a)) (move_statements w m ++ rest)
    (λ more. dropping_plays n (OnCard c) o j Muted g a more h) (power_next n (OnCard c) o j Muted g)
after_power_lead n (AtFault cause place) o j Muted g a w m rest h on = absurd (cc on)

before_power_by : (n : ℕ) (image : List (List ℕ)) (g : ℕ) (a : Armed) (b : Base) (w : Manner) (m : Move) (rest : List Statement) → is_running (running_or_powered Unpowered b (play_at_power image g Unarmed)).live ≡ true
    → LeadPlays n (BeforePower image g a) Unpowered b a (running_or_powered Unpowered b (play_at_power image g Unarmed)) w m rest
unfolding LeadPlays play_at_power
before_power_by n image g a (OnCard c) w m rest on =
    powered_lead n (BeforePower image g a) (BeforePower image g Unarmed) a (power_after (play_at_power image g Unarmed) None) (move_statements w m ++ rest) (λ more. before_power_dropping n image g a more) (before_power_power n image g)
before_power_by n image g a (AtFault cause place) w m rest on = absurd (cc on)

lead_plays : (n : ℕ) (z : State) (w : Manner) (m : Move) (rest : List Statement) → CountsFromOne (armed_stop_in z) → is_running (first_warm (warm_in z)).live ≡ true
    → LeadPlays n z (warm_in z).live (warm_in z).base (armed_stop_in z) (first_warm (warm_in z)) w m rest
unfolding play_at_power
lead_plays n (BeforePower image g a) w m rest h on = before_power_by n image g a (base_of (fault image) image) w m rest on
lead_plays n (AfterPower s) w m rest h on = after_power_lead n s.base s.owed s.by s.live s.budget s.armed w m rest h on

first_unarmed : (b : Base) (o : ℕ) (j : Journal) (v : Live) (g : ℕ) (a : Armed) → (first_warm (past_power b o j v g a)).armed ≡ Unarmed
first_unarmed b o j v g a = grind arith

-- ---- the law

-- the statements of a broken rule, appended to their deck, play to where their tries lead
pub statements_law : StatementsLaw
unfolding statements_to first_play LeadPlays
statements_law n ls t ts counts runs cards =
    let z = play_of_deck ls in
    let s = warm_in z in
    deck_append ls (lines_of n (statements_to z (t ∷ ts)))
    ∙ lead_plays n z t.manner t.move (path_statements ts) counts runs
    ∙ path_plays n (t ∷ ts) (first_warm s) (first_unarmed s.base s.owed s.by s.live s.budget s.armed) cards
