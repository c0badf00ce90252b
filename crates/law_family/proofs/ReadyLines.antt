-- Once a card is sure to be there, every power line that no stop hits finds it.
use Rattle.std.proofs.Common.{◌≡◌, ℕ, zero, suc, ◌+◌, ◌-◌, ◌≤◌, Bool, true, false, cond, ◌&&◌, ◌||◌, not, List, [], ◌∷◌, length, take, drop, Option, Some, None, refl, sym, subst, arith}
use Rattle.std.specs.Prelude.{⊤, nat_le, ◌==◌, slice_set}
use Rattle.std.specs.List.{AllByRecursion}
use Rattle.std.proofs.lemmas.List.{length-set}
use Rattle.model_play.specs.model_device.specs.declared.cause.Cause.{Cause}
use Rattle.model_play.specs.model_device.specs.declared.device.Stop.{Stop}
use Rattle.model_play.specs.model_device.specs.declared.device.Stop.TheVariants as stop
use Rattle.model_play.specs.model_device.specs.Image.{Journal, One, Two, Which, look_at, debt, count_of_recovery_writes, which}
use Rattle.model_play.specs.model_device.specs.Stopped.{cost, stands}
use Rattle.model_play.specs.model_device.specs.Card.{App, Card}
use Rattle.model_play.specs.model_device.specs.Layout.{fault}
use Rattle.model_play.specs.model_card.specs.Items.{Item, Plain, Atomic, weight, moves, StopAt, Stopped, at_stop, in_flight, with_item}
use Rattle.model_play.specs.Play.{Armed, Live, Running, Warm, State, BeforePower, AfterPower, LineResult, Step, command_step, line_command, line_after, hit_of, result_of_stop, FailedWrite, step, power_step, stopped_power, play_at_power, plays, first_failure, start, static_of, dump_result, without_card, formatted_image}
use Rattle.model_play.specs.model_device.specs.PowerUp.{Base, OnCard, AtFault, base_after_migration, migration, base_of}
use Rattle.model_play.specs.model_card.specs.Commands.{Command}
use Rattle.model_play.specs.ReadyAgain.{is_found, is_before_power, is_poke, sure_after, PowerIsReady, ReadyLine, ReadyAgain, FitsJournal, AllFitJournal}
use Rattle.model_play.specs.DeckGrammar.{DeckLine, DeckCommand}
use Rattle.model_play.specs.DeckGrammar as line
use Rattle.model_play.specs.model_device.proofs.LookLemmas.{owed_few}
use Rattle.model_play.specs.model_device.specs.Device.{IsImage}
use Rattle.law_family.proofs.FormattedImage.{formatted_sound, formatted_size}
use Rattle.model_play.specs.model_device.proofs.BoolLemmas.{cond_most}
use Rattle.model_play.proofs.LineKinds.{past_power, image_after, budget_after, armed_after, early_result, quiet_result, StepKind, Early, Quiet, Powers, Sends, by_kind}
use Rattle.model_play.specs.Given.{is_power}

-- ---- the writes that recovery may have to make

owed_which : (m : List (List ℕ)) (w : Which) → debt (look_at m w) ≤ 65
owed_which m w = grind (arith, owed_few)

-- recovery has to make at most 65 writes on an image
pub owed_most : (m : List (List ℕ)) → count_of_recovery_writes m ≤ 65
owed_most m = owed_which m (which m)

pub owed_cond : (b : Bool) (s t : Stopped) → s.owed ≤ 65 → t.owed ≤ 65 → (cond b s t).owed ≤ 65
owed_cond true s t h k = h
owed_cond false s t h k = k

-- a stop leaves at most 65 writes for recovery
pub at_stop_owed : (is : List Item) (k : ℕ) (x : List ℕ) → AllByRecursion FitsJournal is → (at_stop is k x).owed ≤ 65
at_stop_owed [] k x a = omega arith
at_stop_owed (Plain ∷ is) k x a = owed_cond (k == 1) (record { whole = []; owed = 0 }) (with_item Plain (at_stop is (k - 1) x)) (omega arith) (at_stop_owed is (k - 1) x a.1)
at_stop_owed (Atomic w c ∷ is) k x a =
    let few : w ≤ 64 = a.0 in
    owed_cond (nat_le k (cost Two w)) (in_flight w c k x) (with_item (Atomic w c) (at_stop is (k - cost Two w) x)) (cond_most _ (w + 1) 0 65 (omega arith) (omega arith)) (at_stop_owed is (k - cost Two w) x a.1)

-- ---- what is kept from line to line

-- a base that is a card
abbrev IsCardBase : Base → Type 0
IsCardBase (OnCard c) = ⊤
IsCardBase (AtFault cause p) = ⊥

-- if a card is sure to be there, the image has no fault
abbrev SureImage : Bool → List (List ℕ) → Type 0
SureImage true m = fault m ≡ None
SureImage false m = ⊤

-- if a card is sure to be there, the base is a card
abbrev SureBase : Bool → Base → Type 0
SureBase true b = IsCardBase b
SureBase false b = ⊤

record SureBeforePower (sure : Bool) (m : List (List ℕ)) : Type 0 where
  low : 256 ≤ length m
  high : length m ≤ 16384
  sound : SureImage sure m

record SureWarm (sure : Bool) (s : Warm) : Type 0 where
  owed : s.owed ≤ 65
  base : SureBase sure s.base

abbrev Sure : Bool → State → Type 0
Sure sure (BeforePower m b a) = SureBeforePower sure m
Sure sure (AfterPower s) = SureWarm sure s

record KeepsReady (sure : Bool) (t : Step) : Type 0 where
  says : ReadyLine sure t
  next : Sure (sure_after sure t) t.after

says_ready : (sure : Bool) (t : Step) → PowerIsReady t.line t.stop t.result → ReadyLine sure t
says_ready true t h = h
says_ready false t h = tt

-- a result that finds no card changes nothing
still_sure : (found sure : Bool) (s : Warm) → found ≡ false → SureWarm sure s → SureWarm (found || sure) s
still_sure found sure s e h = subst (λ (b : Bool). SureWarm (b || sure) s) (sym e) h

-- ---- power lines

stop_not_found : (t : StopAt) (k : Stop) → is_found (Some (result_of_stop t k)) ≡ false
stop_not_found t stop.Off = refl
stop_not_found t stop.Worn = refl

migrated_sure : (sure : Bool) (b : Base) → SureBase sure b → SureBase sure (base_after_migration b)
migrated_sure sure b h = grind arith

cond_sure : (sure t : Bool) (b : Base) → SureBase sure b → SureBase sure (cond t (base_after_migration b) b)
cond_sure sure true b h = migrated_sure sure b h
cond_sure sure false b h = h

stopped_sure : (sure : Bool) (s : Warm) (t : StopAt) (b : Bool) → SureWarm sure s → SureWarm sure (stopped_power s t b)
stopped_sure sure s t true h = record { owed = cond_most _ (s.owed - 1 + 1) 0 65 (let o : s.owed ≤ 65 = h.owed in omega arith) (omega arith); base = h.base }
stopped_sure sure s t false h = record { owed = cond_most _ 2 0 65 (omega arith) (omega arith); base = cond_sure sure (stands One 1 (t.at - s.owed) t.left) s.base h.base }

pub migration_most : (b : Base) → migration b ≤ 6
migration_most (OnCard c) = cond_most (c.layout == 1) 6 0 6 (omega arith) (omega arith)
migration_most (AtFault cause p) = omega arith

-- a power line that no stop hits
power_none : (sure : Bool) (n : ℕ) (before : State) (b : Base) (o : ℕ) (j : Journal) (v : Live) (g : ℕ) (a : Armed) → SureWarm sure (past_power b o j v g a) → KeepsReady sure (power_step n before (past_power b o j v g a) None)
power_none sure n before (OnCard c) o j v g a h =
    let t = power_step n before (past_power (OnCard c) o j v g a) None in
    let most : migration (OnCard c) ≤ 6 = migration_most (OnCard c) in
    let few : o ≤ 65 = h.owed in
    record { says = says_ready sure t (omega (arith, most, few)); next = record { owed = omega arith; base = tt } }
power_none true n before (AtFault cause p) o j v g a h = absurd h.base
power_none false n before (AtFault cause p) o j v g a h = record { says = tt; next = record { owed = omega arith; base = tt } }

power_sure : (sure : Bool) (n : ℕ) (before : State) (s : Warm) (t : Option StopAt) → SureWarm sure s → KeepsReady sure (power_step n before s t)
power_sure sure n before s None h = power_none sure n before s.base s.owed s.by s.live s.budget s.armed h
power_sure sure n before s (Some t) h =
    record {
      says = says_ready sure (power_step n before s (Some t)) tt;
      next = still_sure (is_found (Some (result_of_stop t t.kind))) sure (stopped_power s t (nat_le t.at s.owed)) (stop_not_found t t.kind) (stopped_sure sure s t (nat_le t.at s.owed) h);
    }

-- ---- lines on a running card

card_sure : (sure : Bool) (c : Card) → SureBase sure (OnCard c)
card_sure true c = tt
card_sure false c = tt

-- a line other than power has nothing to be ready for
no_power_ready : (l : DeckLine) (o : Option StopAt) (r : Option LineResult) → is_power l ≡ false → PowerIsReady l o r
no_power_ready line.Power o r p = absurd (cc p)
no_power_ready _ o r p = tt

command_sure : (sure : Bool) (n : ℕ) (k : DeckCommand) (s : Warm) (c : Card) (r : Command) (t : Option StopAt) → AllByRecursion FitsJournal r.items → SureWarm sure s → KeepsReady sure (command_step n (line.Sent k) s c r t)
command_sure sure n k s c r None fits h = record { says = says_ready sure (command_step n (line.Sent k) s c r None) tt; next = record { owed = h.owed; base = card_sure sure _ } }
command_sure sure n k s c r (Some t) fits h =
    record {
      says = says_ready sure (command_step n (line.Sent k) s c r (Some t)) tt;
      next = still_sure (is_found (Some (result_of_stop t t.kind))) sure (line_after s c r (Some t)) (stop_not_found t t.kind) (record { owed = at_stop_owed r.items t.at t.left fits; base = card_sure sure _ });
    }

without_not_found : (v : Live) → is_found (Some (without_card v)) ≡ false
without_not_found v = grind arith

static_not_found : (o : Option App) → is_found (Some (static_of o)) ≡ false
static_not_found None = refl
static_not_found (Some a) = refl

dumped_not_found : (v : Live) (b : Base) (x : List ℕ) → is_found (Some (dump_result v b x)) ≡ false
dumped_not_found v b x = grind (arith, static_not_found)

quiet_not_found : (l : DeckLine) (v : Live) (b : Base) → is_found (quiet_result l v b) ≡ false
quiet_not_found l v b = grind (arith, dumped_not_found, without_not_found)

-- only a line before the first power line can spoil the card
unspoiled : (l : DeckLine) (s : Warm) (sure : Bool) → (not (is_poke l && is_before_power (AfterPower s)) && sure) ≡ sure
unspoiled (line.Poke at x) s sure = refl
unspoiled _ s sure = refl

-- ---- every line

-- what the first power line finds
based_sure : (sure : Bool) (m : List (List ℕ)) → SureImage sure m → SureBase sure (base_of (fault m) m)
based_sure true m h = subst (λ (f : Option (Cause × ℕ)). IsCardBase (base_of f m)) (sym h) tt
based_sure false m h = tt

warmed_sure : (sure : Bool) (m : List (List ℕ)) (b : ℕ) (a : Armed) → SureBeforePower sure m → SureWarm sure (play_at_power m b a)
unfolding play_at_power
warmed_sure sure m b a h = record { owed = owed_most m; base = based_sure sure m h.sound }

poked_size : (m : List (List ℕ)) (at : ℕ) (x : List ℕ) (sure : Bool) → SureBeforePower sure m → SureBeforePower false (slice_set m at x)
poked_size m at x sure h =
    let same : length (slice_set m at x) ≡ length m = length-set m at x in
    record { low = subst (λ (k : ℕ). 256 ≤ k) (sym same) h.low; high = subst (λ (k : ℕ). k ≤ 16384) (sym same) h.high; sound = tt }

formatted_sure : (m : List (List ℕ)) (sure : Bool) → SureBeforePower sure m → SureBeforePower true (formatted_image m)
formatted_sure m sure h =
    let same : length (formatted_image m) ≡ length m = formatted_size m h.low in
    record { low = subst (λ (k : ℕ). 256 ≤ k) (sym same) h.low; high = subst (λ (k : ℕ). k ≤ 16384) (sym same) h.high; sound = formatted_sound m h.low h.high }

early_sure : (l : DeckLine) (m : List (List ℕ)) (b : ℕ) (a : Armed) (sure : Bool) → SureBeforePower sure m → SureBeforePower (is_found (early_result l) || (not (is_poke l && is_before_power (BeforePower m b a)) && sure)) (image_after l m)
early_sure l m b a sure h = grind (arith, formatted_sure, poked_size)

kind_sure : {w : Option FailedWrite} {z : State} {n : ℕ} {l : DeckLine} {u : Step} (sure : Bool) → StepKind w z n l u → AllByRecursion FitsJournal u.items → Sure sure z → KeepsReady sure u
kind_sure sure (Early {l = l} {m = m} {b = b} {a = a} p) fits h = record { says = says_ready sure _ (no_power_ready l None _ p); next = early_sure l m b a sure h }
kind_sure sure (Quiet {l = l} {s = s} p q) fits h =
    let t : Warm = record s { budget = budget_after l s.budget; armed = armed_after l s.armed } in
    record {
      says = says_ready sure _ (no_power_ready l None _ p);
      next = still_sure (is_found (quiet_result l s.live s.base)) (not (is_poke l && is_before_power (AfterPower s)) && sure) t (quiet_not_found l s.live s.base)
          (subst (λ (b : Bool). SureWarm b t) (sym (unspoiled l s sure)) (record { owed = h.owed; base = h.base }));
    }
kind_sure sure (Powers (BeforePower m b a)) fits h = power_sure sure _ (BeforePower m b a) (play_at_power m b a) _ (warmed_sure sure m b a h)
kind_sure sure (Powers (AfterPower s)) fits h = power_sure sure _ (AfterPower s) s _ h
kind_sure {w} sure (Sends {n = n} {o = o} {g = g} {j = j} {a = a} k c session_state) fits h =
    let r = line_command c session_state g (line.Sent k) in
    command_sure sure n k (past_power (OnCard c) o j (Running session_state) g a) c r (hit_of a (moves r.items) w) fits h

step_sure : (sure : Bool) (z : State) (l : ℕ × DeckLine) (w : Option FailedWrite) → AllByRecursion FitsJournal (step z l w).items → Sure sure z → KeepsReady sure (step z l w)
step_sure sure z l w fits h = kind_sure sure (by_kind z l w) fits h

ready_from : (n : ℕ) (sure : Bool) (z : State) (ls : List (ℕ × DeckLine)) (ws : List (Option FailedWrite)) → Sure sure z → AllFitJournal (take n (plays z ls ws)) → ReadyAgain sure (take n (plays z ls ws))
unfolding plays
ready_from zero sure z ls ws h fits = tt
ready_from (suc n) sure z [] ws h fits = tt
ready_from (suc n) sure z (l ∷ ls) ws h fits =
    let u : Step = step z l (first_failure ws) in
    let k : KeepsReady sure u = step_sure sure z l (first_failure ws) fits.0 h in
    (k.says, ready_from n (sure_after sure u) u.after ls (drop 1 ws) k.next fits.1)

-- the law of a play from an image on, for every front of it
pub ready_again : (n : ℕ) (m : List (List ℕ)) (ls : List (ℕ × DeckLine)) (ws : List (Option FailedWrite)) → IsImage m → AllFitJournal (take n (plays (start m) ls ws)) → ReadyAgain false (take n (plays (start m) ls ws))
ready_again n m ls ws image fits = ready_from n false (start m) ls ws (record { low = image.low; high = image.high; sound = tt }) fits

-- ---- items whose device writes are few

-- an item of at most 147 device writes fits a journal
pub fits_journal : (i : Item) → weight i ≤ 147 → FitsJournal i
fits_journal Plain h = tt
fits_journal (Atomic w c) h = omega arith

pub all_fit_journal : (is : List Item) → AllByRecursion (λ i. weight i ≤ 147) is → AllByRecursion FitsJournal is
all_fit_journal [] a = tt
all_fit_journal (i ∷ is) a = (fits_journal i a.0, all_fit_journal is a.1)
