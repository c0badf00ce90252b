-- An exploration begins in a play in which the rules are kept: after the deck, and one power line if no card runs.
use Rattle.std.proofs.Common.{◌≡◌, ◌⊎◌, inl, inr, ℕ, ◌+◌, ◌≤◌, ◌<◌, Bool, true, false, cond, not, List, [], ◌∷◌, ◌++◌, length, replicate, Option, Some, None, Result, Ok, Err, refl, sym, ap, subst, ◌∙◌, arith}
use Rattle.std.specs.Prelude.{◌&&◌, ◌||◌, nat_le, bytes_eq, is_none, is_some, slice_index_or}
use Rattle.std.specs.List.{AllByRecursion}
use Rattle.std.proofs.lemmas.Bool.{and_parts, eqb-true, leb-true, cases_lt}
use Rattle.std.proofs.lemmas.List.{length-replicate, get_or-replicate, get_or_past}
use Rattle.law_histories.specs.model_device.specs.declared.device.Stop.TheVariants as stop
use Rattle.law_histories.specs.model_device.specs.Bytes.{AreBytes, zeros, lookup}
use Rattle.law_histories.specs.model_device.specs.Image.{Journal}
use Rattle.law_histories.specs.model_device.specs.Device.{IsImage, blank_words, device_words}
use Rattle.law_histories.specs.model_device.specs.Card.{App, Card}
use Rattle.law_histories.specs.model_device.specs.PowerUp.{Base, OnCard, AtFault}
use Rattle.law_histories.specs.model_device.proofs.MapLemmas.{same_name}
use Rattle.law_histories.specs.model_text.specs.Text.{◌>>=◌}
use Rattle.law_histories.specs.model_machine.specs.Apdu.{apdu_read}
use Rattle.law_histories.specs.model_card.specs.Items.{Fixed, Created, Deleted, Item, Plain, Atomic, moves, StopAt}
use Rattle.law_histories.specs.model_card.specs.Commands.{Command, command}
use Rattle.law_histories.specs.model_play.specs.DeckGrammar.{DeckLine, DeckCommand}
use Rattle.law_histories.specs.model_play.specs.DeckGrammar as line
use Rattle.law_histories.specs.model_play.specs.Given.{apps_in, apps_on}
use Rattle.law_histories.specs.model_play.specs.Play.{Armed, Unarmed, ArmedFail, Live, Running, Unpowered, Muted, Warm, State, BeforePower, AfterPower, FailedWrite, Step, step, plays, start, line_command, hit_of, power_moves, power_after, stopped_power, play_at_power, line_after, moves_of, armed_stop_in, steady_at, steady_failures}
use Rattle.law_histories.specs.model_play.specs.ReadyAgain.{IsLine}
use Rattle.law_histories.specs.model_play.proofs.LineKinds.{past_power, armed_after, found_by_power, StepKind, Early, Quiet, Powers, Sends, by_kind}
use Rattle.law_histories.specs.law_promise.specs.History.{after_step}
use Rattle.law_histories.specs.law_promise.specs.Along.{IsApp, IsAppIf, CreatesOnly, FindsNone, BringsOnly}
use Rattle.law_histories.specs.law_promise.specs.Computed.{is_app, creates_only, finds_none, all_bring_only}
use Rattle.law_histories.specs.law_promise.specs.Domain.{StopsInWrite, LineStopsInWrite, StopsAtWrite}
use Rattle.law_histories.specs.law_explore.specs.States.{warm_state, warm_in, play_of_deck, first_warm, first_play}
use Rattle.law_histories.specs.law_explore.specs.Safety.{CountsFromOne, IsSettled}
use Rattle.law_histories.specs.law_explore.proofs.Starts.{first_law}
use Rattle.law_histories.specs.model_rules.specs.Rules.{AppRules, Target}
use Rattle.law_histories.specs.model_rules.specs.Happenings.{History, rule_watch}
use Rattle.law_histories.specs.model_rules.specs.Keeping.{Standing, first_standing}
use Rattle.law_histories.specs.law_rules.specs.Law.{KeptInAll}
use Rattle.law_histories.specs.Histories.{AppExploration, if_always, standing_if, standing_after_step, standing_after_steps, power_step, deck_steps, first_standing_of}
use Rattle.law_histories.specs.Kept.{leaves_none}
use Rattle.law_histories.proofs.Begins.{power_apps}
use Rattle.law_histories.proofs.Steps.{Holds, StepHolds, holds_step, holds_quiet, holds_none, PlayHolds, holds_play}
use Rattle.law_histories.proofs.Stops.{Counts}
use Rattle.law_histories.proofs.Tries.{IsReached, SameFor, same_standing, power_brings, power_hits}

-- ---- the premise

app_is : (app a : App) → is_app app a ≡ true → IsApp app a
app_is app a h = grind (arith, and_parts, same_name, eqb-true)

app_if : (b : Bool) (app a : App) → (not b || is_app app a) ≡ true → IsAppIf b app a
app_if true app a h = app_is app a h
app_if false app a h = tt

-- items that a test finds to create only the application do so
pub creates_from : (n : List ℕ) (app : App) (is : List Item) → creates_only n app is ≡ true → CreatesOnly n app is
creates_from n app [] h = tt
creates_from n app (Plain ∷ is) h = creates_from n app is h
creates_from n app (Atomic w (Fixed m ps) ∷ is) h = creates_from n app is h
creates_from n app (Atomic w (Created m a) ∷ is) h =
    let p = and_parts (not (bytes_eq m n) || is_app app a) (creates_only n app is) h in
    (app_if (bytes_eq m n) app a p.0, creates_from n app is p.1)
creates_from n app (Atomic w (Deleted m) ∷ is) h = creates_from n app is h

none_is : (found : Option App) → is_none found ≡ true → found ≡ None
none_is None h = refl
none_is (Some a) h = absurd (cc h)

finds_from : (n : List ℕ) (z : State) (l : DeckLine) (after : State) → finds_none n z l after ≡ true → FindsNone n z l after
finds_from n z l after h = grind (arith, none_is)

all_bring : (n : List ℕ) (app : App) (ts us : List Step) → all_bring_only n app (ts ++ us) ≡ true → AllByRecursion (BringsOnly n app) ts
all_bring n app [] us h = tt
all_bring n app (t ∷ ts) us h =
    let p = and_parts (creates_only n app t.whole && finds_none n t.before t.line t.after) (all_bring_only n app (ts ++ us)) h in
    let q = and_parts (creates_only n app t.whole) (finds_none n t.before t.line t.after) p.0 in
    (record { creates = creates_from n app t.whole q.0; finds = finds_from n t.before t.line t.after q.1 }, all_bring n app ts us p.1)

-- ---- a blank device

word_of : (i : ℕ) → (i < length (blank_words device_words)) ⊎ (length (blank_words device_words) ≤ i) → AreBytes (slice_index_or (blank_words device_words) i [])
word_of i (inl low) =
    let few : i < device_words = subst (λ (n : ℕ). i < n) (length-replicate {A = List ℕ} device_words (replicate 8 0xFF)) low in
    subst AreBytes (sym (get_or-replicate {A = List ℕ} device_words i (replicate 8 0xFF) [] few)) (omega arith, (omega arith, (omega arith, (omega arith, (omega arith, (omega arith, (omega arith, (omega arith, tt))))))))
word_of i (inr high) = subst AreBytes (sym (get_or_past (blank_words device_words) i [] high)) tt

blank_image : IsImage (blank_words device_words)
blank_image =
    let size : length (blank_words device_words) ≡ 8192 = length-replicate {A = List ℕ} device_words (replicate 8 0xFF) in
    record {
      low = omega (arith, size);
      high = omega (arith, size);
      words = λ i low. ap (λ (x : List ℕ). length x) (get_or-replicate {A = List ℕ} device_words i (replicate 8 0xFF) [] (subst (λ (n : ℕ). i < n) size low));
      bytes = λ i. word_of i (cases_lt i (length (blank_words device_words)));
    }

blank_holds : (r : AppRules) (g : Target) → KeptInAll r g → Holds r g (start (blank_words device_words)) [] (first_standing r)
blank_holds r g kept = record { goes = λ ls ws are. kept ls (blank_words device_words) ws are blank_image; covered = tt; stands = λ a e. absurd (cc e) }

-- ---- stops of a deck come at device writes

no_stop : (l : DeckLine) (is : List Item) → LineStopsInWrite l is None
no_stop (line.Sent k) is = tt
no_stop _ is = tt

armed_counts : (l : DeckLine) (a : Armed) → Counts l → CountsFromOne a → CountsFromOne (armed_after l a)
armed_counts l a is h = grind arith

hit_cut : (b : Bool) (is : List Item) (k : ℕ) (x : List ℕ) → nat_le k (moves is) ≡ b → 1 ≤ k → StopsInWrite is (cond b (Some (record { kind = stop.Off; at = k; left = x })) None)
hit_cut true is k x e low = (low, leb-true k (moves is) e)
hit_cut false is k x e low = tt

hit_fail : (b : Bool) (is : List Item) (k : ℕ) → nat_le k (0 + moves is) ≡ b → 1 ≤ k → StopsInWrite is (hit_of (ArmedFail k) (moves is) (cond b (Some (record { at = k; left = zeros 8 })) None))
hit_fail true is k e low = (low, (let high : k ≤ 0 + moves is = leb-true k (0 + moves is) e in omega (arith, high)))
hit_fail false is k e low = tt

hits_by : (a : Armed) (is : List Item) (k : DeckCommand) → CountsFromOne a → StopsInWrite is (hit_of a (moves is) (steady_at a (line.Sent k) (0 + moves is)))
hits_by a is k low = grind (arith, hit_cut, hit_fail)

-- a line on a device that refuses just the writes of `fail` lines
abbrev steady_step : State → ℕ × DeckLine → Step
steady_step z l = step z l (steady_at (armed_stop_in z) l.1 (moves_of z l))

sent_hits : (n : ℕ) (k : DeckCommand) (b : Base) (o : ℕ) (j : Journal) (v : Live) (budget : ℕ) (a : Armed) → CountsFromOne a → StopsAtWrite (steady_step (AfterPower (past_power b o j v budget a)) (n, line.Sent k))
unfolding step moves_of
sent_hits n k (OnCard c) o j (Running session_state) budget a low = hits_by a (line_command c session_state budget (line.Sent k)).items k low
sent_hits n k (AtFault cause p) o j (Running session_state) budget a low = tt
sent_hits n k b o j Unpowered budget a low = tt
sent_hits n k b o j Muted budget a low = tt

line_hits : (z : State) (n : ℕ) (l : DeckLine) → CountsFromOne (armed_stop_in z) → StopsAtWrite (steady_step z (n, l))
unfolding step
line_hits (AfterPower s) n (line.Sent k) low = sent_hits n k s.base s.owed s.by s.live s.budget s.armed low
line_hits (AfterPower s) n line.Power low = tt
line_hits (AfterPower s) n _ low = tt
line_hits (BeforePower m b a) n line.Power low = tt
line_hits (BeforePower m b a) n (line.Sent k) low = tt
line_hits (BeforePower m b a) n _ low = tt

stopped_unarmed : (s : Warm) (t : StopAt) (x : Bool) → CountsFromOne (stopped_power s t x).armed
stopped_unarmed s t true = tt
stopped_unarmed s t false = tt

power_unarmed : (s : Warm) (t : Option StopAt) → CountsFromOne (power_after s t).armed
power_unarmed s None = tt
power_unarmed s (Some t) = stopped_unarmed s t (nat_le t.at s.owed)

sent_unarmed : (s : Warm) (c : Card) (r : Command) (t : Option StopAt) → CountsFromOne (line_after s c r t).armed
sent_unarmed s c r None = tt
sent_unarmed s c r (Some t) = tt

kind_counts : {w : Option FailedWrite} {z : State} {n : ℕ} {l : DeckLine} {u : Step} → StepKind w z n l u → Counts l → CountsFromOne (armed_stop_in z) → CountsFromOne (armed_stop_in u.after)
kind_counts (Early {l = l} {a = a} p) is low = armed_counts l a is low
kind_counts (Quiet {l = l} {s = s} p q) is low = armed_counts l s.armed is low
kind_counts (Powers z) is low = power_unarmed (found_by_power z) _
kind_counts {w} (Sends {n = n} {o = o} {g = budget} {j = j} {a = a} k c session_state) is low = grind (arith, sent_unarmed, past_power)

deck_hits : (ls : List (ℕ × DeckLine)) (z : State) → AllByRecursion (λ l. Counts l.1) ls → CountsFromOne (armed_stop_in z) → AllByRecursion StopsAtWrite (plays z ls (steady_failures z ls))
unfolding plays steady_failures
deck_hits [] z are low = tt
deck_hits (l ∷ ls) z are low =
    let w = steady_at (armed_stop_in z) l.1 (moves_of z l) in
    (line_hits z l.0 l.1 low, deck_hits ls (step z l w).after are.1 (kind_counts (by_kind z l w) are.0 low))

-- ---- a stop that is armed is dropped

abbrev disarmed : State → State
disarmed (BeforePower m b a) = BeforePower m b Unarmed
disarmed (AfterPower s) = AfterPower (record s { armed = Unarmed })

-- a stop that no write meets, in the place of the one that is armed
abbrev harmless : State → State
harmless (BeforePower m b a) = BeforePower m b (ArmedFail 1)
harmless (AfterPower s) = AfterPower (record s { armed = ArmedFail 1 })

abbrev fail_line : ℕ × DeckLine
fail_line = (0, line.Fail 1)

abbrev idle_line : ℕ × DeckLine
idle_line = (0, line.Sent (line.Apdu (0 ∷ [])))

module _ (r : AppRules) (g : Target) (h : History) (s : Standing) where
  harmless_holds : (z : State) → Holds r g z h s → Holds r g (harmless z) h s
  unfolding step
  harmless_holds (BeforePower m b a) holds = holds_quiet r g (BeforePower m b a) h s fail_line None holds tt (record { creates = tt; finds = tt }) tt refl refl
  harmless_holds (AfterPower w) holds = holds_quiet r g (AfterPower w) h s fail_line None holds tt (record { creates = tt; finds = tt }) tt refl refl

  idle_by : (b : Base) (o : ℕ) (j : Journal) (v : Live) (budget : ℕ) → Holds r g (AfterPower (past_power b o j v budget (ArmedFail 1))) h s → Holds r g (AfterPower (past_power b o j v budget Unarmed)) h s
  unfolding step command apdu_read
  idle_by (OnCard c) o j (Running session_state) budget holds =
      holds_quiet r g (AfterPower (past_power (OnCard c) o j (Running session_state) budget (ArmedFail 1))) h s idle_line None holds (omega arith, tt) (record { creates = tt; finds = tt }) tt refl refl
  idle_by (AtFault cause p) o j (Running session_state) budget holds =
      holds_quiet r g (AfterPower (past_power (AtFault cause p) o j (Running session_state) budget (ArmedFail 1))) h s idle_line None holds (omega arith, tt) (record { creates = tt; finds = tt }) tt refl refl
  idle_by b o j Unpowered budget holds = holds_quiet r g (AfterPower (past_power b o j Unpowered budget (ArmedFail 1))) h s idle_line None holds (omega arith, tt) (record { creates = tt; finds = tt }) tt refl refl
  idle_by b o j Muted budget holds = holds_quiet r g (AfterPower (past_power b o j Muted budget (ArmedFail 1))) h s idle_line None holds (omega arith, tt) (record { creates = tt; finds = tt }) tt refl refl

  idle_holds : (z : State) → Holds r g (harmless z) h s → Holds r g (disarmed z) h s
  unfolding step
  idle_holds (BeforePower m b a) holds = holds_quiet r g (BeforePower m b (ArmedFail 1)) h s idle_line None holds (omega arith, tt) (record { creates = tt; finds = tt }) tt refl refl
  idle_holds (AfterPower w) holds = idle_by w.base w.owed w.by w.live w.budget holds

  dropped_holds : (z : State) → Holds r g z h s → Holds r g (disarmed z) h s
  dropped_holds z holds = idle_holds z (harmless_holds z holds)

-- ---- the power line that an exploration adds

-- what stands after it, and where it leads
record EndReaches (r : AppRules) (g : Target) (w : Warm) (s : Standing) : Type 0 where
  standing : Standing
  is : standing_after_steps r g (power_step w.live w) s ≡ Ok standing
  reached : IsReached r g (warm_state (first_warm w) standing.allowances) standing

one_power : (r : AppRules) (g : Target) (t : Step) (s u : Standing) → standing_after_step r g t s ≡ Ok u → standing_after_steps r g (t ∷ []) s ≡ Ok u
unfolding standing_after_steps
one_power r g t s u e = ap (λ (x : Result Standing (List ℕ)). x >>= λ v. standing_after_steps r g [] v) e

no_power : (r : AppRules) (g : Target) (s : Standing) → standing_after_steps r g [] s ≡ Ok s
unfolding standing_after_steps
no_power r g s = refl

-- a power line on no running card, with a stop armed or none
stopped_same : (g : Target) (b : Base) (o : ℕ) (j : Journal) (budget : ℕ) (a : Armed)
    → SameFor g (step (AfterPower (past_power b o j Unpowered budget a)) (0, line.Power) None) (step (AfterPower (past_power b o j Unpowered budget Unarmed)) (0, line.Power) None)
unfolding step
stopped_same g b o j budget a =
    let w = past_power b o j Unpowered budget a in
    let v = past_power b o j Unpowered budget Unarmed in
    record { events = refl; before = refl; after = power_apps w (hit_of a (power_moves w) None) ∙ sym (power_apps v None) }

muted_same : (g : Target) (b : Base) (o : ℕ) (j : Journal) (budget : ℕ) (a : Armed)
    → SameFor g (step (AfterPower (past_power b o j Muted budget a)) (0, line.Power) None) (step (AfterPower (past_power b o j Muted budget Unarmed)) (0, line.Power) None)
unfolding step
muted_same g b o j budget a =
    let w = past_power b o j Muted budget a in
    let v = past_power b o j Muted budget Unarmed in
    record { events = refl; before = refl; after = power_apps w (hit_of a (power_moves w) None) ∙ sym (power_apps v None) }

-- if the application is on the card neither before nor after a line
gone_standing : (r : AppRules) (g : Target) (t : Step) (s : Standing) → lookup (apps_in t.before) g.name ≡ None → lookup (apps_in t.after) g.name ≡ None → standing_after_step r g t s ≡ Ok (first_standing r)
unfolding standing_after_step
gone_standing r g t s before after =
    let e : History = after_step (rule_watch g.name) t [] in
    ap (λ (x : Option App). standing_if (is_some x && is_some (lookup (apps_in t.after) g.name)) r e s >>= if_always r (lookup (apps_in t.after) g.name)) before
    ∙ ap (λ (y : Option App). standing_if false r e s >>= if_always r y) after

module _ (r : AppRules) (g : Target) (h : History) (s : Standing) where
  warm_end : (b : Base) (o : ℕ) (j : Journal) (v : Live) (budget : ℕ) (a : Armed) → Holds r g (AfterPower (past_power b o j v budget Unarmed)) h s
      → IsSettled (first_warm (past_power b o j v budget a)).live (first_warm (past_power b o j v budget a)).base (first_warm (past_power b o j v budget a)).owed → EndReaches r g (past_power b o j v budget a) s
  unfolding step
  warm_end (OnCard c) o j (Running session_state) budget a holds settled =
      record { standing = s; is = no_power r g s; reached = record { owed = o; by = j; history = h; started = settled; holds = holds } }
  warm_end (AtFault cause p) o j (Running session_state) budget a holds settled = absurd settled
  warm_end (OnCard c) o j Unpowered budget a holds settled =
      let w = past_power (OnCard c) o j Unpowered budget a in
      let v = past_power (OnCard c) o j Unpowered budget Unarmed in
      let one : StepHolds r g (step (AfterPower v) (0, line.Power) None) h s = holds_step r g (AfterPower v) h s (0, line.Power) None holds tt (power_brings g 0 v) (power_hits 0 v) in
      record {
        standing = one.standing;
        is = one_power r g (step (AfterPower w) (0, line.Power) None) s one.standing (same_standing r g (step (AfterPower w) (0, line.Power) None) (step (AfterPower v) (0, line.Power) None) s (stopped_same g (OnCard c) o j budget a) ∙ one.is);
        reached = record { owed = 0; by = j; history = after_step (rule_watch g.name) (step (AfterPower v) (0, line.Power) None) h; started = (refl, refl); holds = one.holds };
      }
  warm_end (OnCard c) o j Muted budget a holds settled =
      let w = past_power (OnCard c) o j Muted budget a in
      let v = past_power (OnCard c) o j Muted budget Unarmed in
      let one : StepHolds r g (step (AfterPower v) (0, line.Power) None) h s = holds_step r g (AfterPower v) h s (0, line.Power) None holds tt (power_brings g 0 v) (power_hits 0 v) in
      record {
        standing = one.standing;
        is = one_power r g (step (AfterPower w) (0, line.Power) None) s one.standing (same_standing r g (step (AfterPower w) (0, line.Power) None) (step (AfterPower v) (0, line.Power) None) s (muted_same g (OnCard c) o j budget a) ∙ one.is);
        reached = record { owed = 0; by = j; history = after_step (rule_watch g.name) (step (AfterPower v) (0, line.Power) None) h; started = (refl, refl); holds = one.holds };
      }
  warm_end (AtFault cause p) o j Unpowered budget a holds settled =
      let w = past_power (AtFault cause p) o j Unpowered budget a in
      record {
        standing = first_standing r;
        is = one_power r g (step (AfterPower w) (0, line.Power) None) s (first_standing r) (gone_standing r g (step (AfterPower w) (0, line.Power) None) s refl (ap (λ (m : List (List ℕ × App)). lookup m g.name) (power_apps w (hit_of a (power_moves w) None))));
        reached = record { owed = o; by = j; history = h; started = tt; holds = holds_none r g (AfterPower (past_power (AtFault cause p) o j Unpowered budget Unarmed)) h s (first_standing r) holds refl };
      }
  warm_end (AtFault cause p) o j Muted budget a holds settled =
      let w = past_power (AtFault cause p) o j Muted budget a in
      record {
        standing = first_standing r;
        is = one_power r g (step (AfterPower w) (0, line.Power) None) s (first_standing r) (gone_standing r g (step (AfterPower w) (0, line.Power) None) s refl (ap (λ (m : List (List ℕ × App)). lookup m g.name) (power_apps w (hit_of a (power_moves w) None))));
        reached = record { owed = o; by = j; history = h; started = tt; holds = holds_none r g (AfterPower (past_power (AtFault cause p) o j Muted budget Unarmed)) h s (first_standing r) holds refl };
      }

  -- the first power line of all, by what it finds
  before_by : (b : Base) (o : ℕ) (j : Journal) (budget : ℕ) (a : Armed) (k : History) (u : Standing) → Holds r g (AfterPower (power_after (past_power b o j Unpowered budget Unarmed) None)) k u → lookup (apps_on b) g.name ≡ None
      → EndReaches r g (past_power b o j Unpowered budget a) s
  unfolding step
  before_by (OnCard c) o j budget a k u holds none =
      let w = past_power (OnCard c) o j Unpowered budget a in
      record {
        standing = first_standing r;
        is = one_power r g (step (AfterPower w) (0, line.Power) None) s (first_standing r) (gone_standing r g (step (AfterPower w) (0, line.Power) None) s none (ap (λ (m : List (List ℕ × App)). lookup m g.name) (power_apps w (hit_of a (power_moves w) None)) ∙ none));
        reached = record { owed = 0; by = j; history = k; started = (refl, refl); holds = holds_none r g _ k u (first_standing r) holds none };
      }
  before_by (AtFault cause p) o j budget a k u holds none =
      let w = past_power (AtFault cause p) o j Unpowered budget a in
      record {
        standing = first_standing r;
        is = one_power r g (step (AfterPower w) (0, line.Power) None) s (first_standing r) (gone_standing r g (step (AfterPower w) (0, line.Power) None) s refl (ap (λ (m : List (List ℕ × App)). lookup m g.name) (power_apps w (hit_of a (power_moves w) None))));
        reached = record { owed = 0; by = j; history = k; started = tt; holds = holds_none r g _ k u (first_standing r) holds none };
      }

  before_end : (m : List (List ℕ)) (budget : ℕ) (a : Armed) → Holds r g (BeforePower m budget Unarmed) h s → lookup (apps_in (AfterPower (play_at_power m budget a))) g.name ≡ None → EndReaches r g (play_at_power m budget a) s
  unfolding step play_at_power
  before_end m budget a holds none =
      let z : State = BeforePower m budget Unarmed in
      let w : Warm = play_at_power m budget Unarmed in
      let absent : lookup (apps_in (AfterPower (power_after w None))) g.name ≡ None = ap (λ (m : List (List ℕ × App)). lookup m g.name) (power_apps w None) ∙ none in
      let one : StepHolds r g (step z (0, line.Power) None) h s = holds_step r g z h s (0, line.Power) None holds tt (record { creates = tt; finds = absent }) tt in
      before_by w.base w.owed w.by budget a (after_step (rule_watch g.name) (step z (0, line.Power) None) h) one.standing one.holds none

  ends : (z : State) → Holds r g z h s → leaves_none g.name z ≡ true → IsSettled (first_warm (warm_in z)).live (first_warm (warm_in z)).base (first_warm (warm_in z)).owed → EndReaches r g (warm_in z) s
  ends (BeforePower m b a) holds none settled = before_end m b a (dropped_holds r g h s (BeforePower m b a) holds) (none_is (lookup (apps_in (AfterPower (play_at_power m b a))) g.name) none)
  ends (AfterPower w) holds none settled = warm_end w.base w.owed w.by w.live w.budget w.armed (dropped_holds r g h s (AfterPower w) holds) settled

-- ---- the first state

after_more : (r : AppRules) (g : Target) (ts us : List Step) (x : Result Standing (List ℕ)) → ((u : Standing) → standing_after_steps r g (ts ++ us) u ≡ (standing_after_steps r g ts u >>= λ q. standing_after_steps r g us q))
    → (x >>= λ u. standing_after_steps r g (ts ++ us) u) ≡ (x >>= (λ u. standing_after_steps r g ts u) >>= λ u. standing_after_steps r g us u)
after_more r g ts us (Ok u) again = again u
after_more r g ts us (Err e) again = refl

steps_append : (r : AppRules) (g : Target) (ts us : List Step) (s : Standing) → standing_after_steps r g (ts ++ us) s ≡ (standing_after_steps r g ts s >>= λ u. standing_after_steps r g us u)
unfolding standing_after_steps
steps_append r g [] us s = refl
steps_append r g (t ∷ ts) us s = after_more r g ts us (standing_after_step r g t s) (λ u. steps_append r g ts us u)

-- the deck breaks nothing, and its exploration begins in a play in which the rules are kept
pub record FirstReaches (x : AppExploration) : Type 0 where
  pub standing : Standing
  pub is : first_standing_of x ≡ Ok standing
  pub reached : IsReached x.rules x.target (warm_state (first_play x.lines) standing.allowances) standing

-- a deck's lines on a blank device
abbrev deck_play : List (ℕ × DeckLine) → List Step
deck_play ls = let z = start (blank_words device_words) in plays z ls (steady_failures z ls)

-- a deck that keeps its rules leads to the first state of its exploration
pub first_reaches : (x : AppExploration) → KeptInAll x.rules x.target → AllByRecursion (λ l. IsLine l.1) x.lines → AllByRecursion (λ l. Counts l.1) x.lines → all_bring_only x.target.name x.target.app (deck_steps x.lines) ≡ true
    → leaves_none x.target.name (play_of_deck x.lines) ≡ true → FirstReaches x
unfolding first_standing_of deck_steps play_of_deck first_play
first_reaches x kept bytes counts brings none =
    let r : AppRules = x.rules in
    let g : Target = x.target in
    let z : State = start (blank_words device_words) in
    let w : Warm = warm_in (play_of_deck x.lines) in
    let ws : List (Option FailedWrite) = steady_failures z x.lines in
    let play : PlayHolds r g z (deck_play x.lines) (first_standing r) =
    holds_play r g x.lines ws z [] (first_standing r) (blank_holds r g kept) bytes (all_bring g.name g.app (deck_play x.lines) (power_step w.live w) brings) (deck_hits x.lines z counts tt)
    in
    let end : EndReaches r g w play.standing = ends r g play.history play.standing (play_of_deck x.lines) play.holds none (first_law x.lines).settled in
    record {
      standing = end.standing;
      is =
          steps_append r g (deck_play x.lines) (power_step w.live w) (first_standing r)
          ∙ (ap (λ (y : Result Standing (List ℕ)). y >>= λ u. standing_after_steps r g (power_step w.live w) u) play.is ∙ end.is);
      reached = end.reached;
    }
