-- In every play from an image whose lines are bytes, each item fits a journal.
use Rattle.std.proofs.Common.{◌≡◌, ℕ, zero, suc, ◌+◌, ◌-◌, ◌<◌, Bool, true, false, cond, List, [], ◌∷◌, ◌++◌, take, drop, length, Option, Some, None, refl, subst, arith}
use Rattle.std.specs.Prelude.{⊤, ◌==◌, nat_le, slice_set}
use Rattle.std.specs.List.{AllByRecursion}
use Rattle.model_play.specs.model_device.specs.declared.cause.Cause.{Cause}
use Rattle.model_play.specs.model_device.specs.declared.device.Stop.{Stop}
use Rattle.model_play.specs.model_device.specs.declared.device.Stop.TheVariants as stop
use Rattle.model_play.specs.model_device.specs.Bytes.{AreBytes, bytes2, zeros}
use Rattle.model_play.specs.model_card.specs.Units.{UnitParts}
use Rattle.model_play.specs.model_device.specs.Device.{IsImage}
use Rattle.model_play.specs.model_device.specs.Image.{One, shut_word}
use Rattle.model_play.specs.model_device.specs.Stopped.{stands}
use Rattle.model_play.specs.model_device.specs.Card.{App, Card, heap_start}
use Rattle.model_play.specs.model_device.specs.Layout.{root, hole_header, fault}
use Rattle.model_play.specs.model_card.specs.Items.{moves, StopAt}
use Rattle.model_play.specs.model_card.specs.Manager.{SessionState}
use Rattle.model_play.specs.DeckGrammar.{DeckLine}
use Rattle.model_play.specs.DeckGrammar as line
use Rattle.model_play.specs.Play.{Armed, Live, Running, Unpowered, Muted, Warm, State, BeforePower, AfterPower, Step, piece_commands, load_commands, line_command, hit_of, FailedWrite, live_after, power_live, power_after, stopped_power, line_after, step, play_at_power, plays, first_failure, start, formatted_image}
use Rattle.model_play.specs.model_device.specs.PowerUp.{Base, OnCard, AtFault, base_after_migration, base_of}
use Rattle.model_play.specs.model_card.specs.Commands.{Command}
use Rattle.model_play.specs.ReadyAgain.{FitsJournal, AllFitJournal, IsLine, AreLines}
use Rattle.model_play.specs.model_device.proofs.ImageLemmas.{all_append}
use Rattle.model_play.specs.model_device.proofs.LookLemmas.{IsFull}
use Rattle.model_play.proofs.PlayLemmas.{step_is}
use Rattle.model_play.specs.model_device.proofs.ImageBytes.{image_set, shut_full}
use Rattle.law_family.proofs.CardFacts.{all_take, all_drop, AreOnCard, done_stands, whole_stand, means_on_card}
use Rattle.law_family.proofs.FewItems.{IsSent, SessionStateStands, CommandStands, command_stands, send_stands}
use Rattle.law_machine.proofs.AppSizes.{Limited}
use Rattle.law_family.proofs.PlaySizes.{SessionStateFits, StateFits, step_fits}
use Rattle.model_play.specs.model_device.proofs.ListLemmas.{pair_bytes}
use Rattle.model_play.proofs.LineKinds.{past_power, image_after, StepKind, Early, Quiet, Powers, Sends, by_kind}

-- ---- the commands of a line

pub with_pair : (b : List ℕ) (n : ℕ) → AreBytes b → AreBytes (b ++ bytes2 n)
with_pair b n h = all_append (λ x. x < 256) b (bytes2 n) h (pair_bytes n)

pub pieces_sent : (k ins at : ℕ) (b : List ℕ) → AreBytes b → AllByRecursion IsSent (piece_commands k ins at b)
pieces_sent zero ins at b h = tt
pieces_sent (suc k) ins at b h = by (length b == 0) (all_take (λ x. x < 256) 248 b h, pieces_sent k ins (at + 248) (drop 248 b) (all_drop (λ x. x < 256) 248 b h))
  where
    by : (t : Bool) → AllByRecursion IsSent ((0xBE ∷ ins ∷ (bytes2 at ++ length (take 248 b) ∷ take 248 b)) ∷ piece_commands k ins (at + 248) (drop 248 b))
        → AllByRecursion IsSent (cond t [] ((0xBE ∷ ins ∷ (bytes2 at ++ length (take 248 b) ∷ take 248 b)) ∷ piece_commands k ins (at + 248) (drop 248 b)))
    by true r = tt
    by false r = r

pub load_sent : (u : UnitParts) (fixed session : ℕ) → AreBytes u.code → AreBytes u.init → AreBytes u.dir → AreBytes u.fci → AllByRecursion IsSent (load_commands u fixed session)
load_sent u fixed session code init dir fci = grind (arith, IsSent, with_pair, pair_bytes, all_append, pieces_sent)

pub line_stands : (c : Card) (session_state : SessionState) (budget : ℕ) (l : DeckLine) → IsLine l → Limited c.apps → SessionStateFits c.apps session_state → AreOnCard c.apps → SessionStateStands c.apps session_state → CommandStands c.apps (line_command c session_state budget l)
line_stands c session_state budget l is limited fits on h = grind (arith, command_stands, all_drop, send_stands, load_sent)

-- ---- words that are set

pub root_full : (v size first : ℕ) → v < 256 → IsFull (root v size first)
root_full v size first h = (refl, (omega arith, (omega arith, (omega arith, (h, (omega arith, (omega arith, (omega arith, (omega arith, tt)))))))))

pub hole_full : (n link : ℕ) → IsFull (hole_header n link)
hole_full n link = (refl, (omega arith, (omega arith, (omega arith, (omega arith, (omega arith, (omega arith, (omega arith, (omega arith, tt)))))))))

pub formatted_image_lem : (m : List (List ℕ)) → IsImage m → IsImage (formatted_image m)
formatted_image_lem m image =
    let size : ℕ = length m in
    let a = slice_set m 0 (root 2 size heap_start) in
    let b = slice_set a 1 shut_word in
    let c = slice_set b 2 (zeros 8) in
    let d = slice_set c 130 shut_word in
    let zero-full : IsFull (zeros 8) = (refl, (omega arith, (omega arith, (omega arith, (omega arith, (omega arith, (omega arith, (omega arith, (omega arith, tt))))))))) in
    image_set d heap_start (hole_header (size - heap_start) 0)
    (image_set c 130 shut_word (image_set b 2 (zeros 8) (image_set a 1 shut_word (image_set m 0 (root 2 size heap_start) image (root_full 2 size heap_start (omega arith))) shut_full) zero-full) shut_full)
    (hole_full (size - heap_start) 0)

-- ---- what is kept from line to line

abbrev pub LiveStands : List (List ℕ × App) → Live → Type 0
LiveStands m (Running session_state) = SessionStateStands m session_state
LiveStands m Unpowered = ⊤
LiveStands m Muted = ⊤

abbrev pub BaseStands : Base → Live → Type 0
BaseStands (OnCard c) v = AreOnCard c.apps × LiveStands c.apps v
BaseStands (AtFault cause p) v = ⊤

abbrev StateStands : State → Type 0
StateStands (BeforePower m b a) = IsImage m
StateStands (AfterPower s) = BaseStands s.base s.live

record LineStands (u : Step) : Type 0 where
  few : AllByRecursion FitsJournal u.items
  next : StateStands u.after

pub after_stop : (m : List (List ℕ × App)) (k : Stop) → LiveStands m (live_after k)
after_stop m stop.Off = tt
after_stop m stop.Worn = tt

-- ---- power lines

pub base_on_card : (b : Base) (v : Live) → BaseStands b v → BaseStands b Unpowered
base_on_card (OnCard c) v h = (h.0, tt)
base_on_card (AtFault cause p) v h = tt

pub base_stopped : (b : Base) (k : Stop) → BaseStands b Unpowered → BaseStands b (live_after k)
base_stopped (OnCard c) k h = (h.0, after_stop c.apps k)
base_stopped (AtFault cause p) k h = tt

pub base_powered : (b : Base) → BaseStands b Unpowered → BaseStands (base_after_migration b) (power_live b)
base_powered (OnCard c) h = (h.0, record { selected = tt; load = tt })
base_powered (AtFault cause p) h = tt

pub base_migrated : (b : Base) (v : Live) → BaseStands b v → BaseStands (base_after_migration b) v
base_migrated (OnCard c) v h = h
base_migrated (AtFault cause p) v h = h

pub base_cond : (t : Bool) (b : Base) (v : Live) → BaseStands b v → BaseStands (cond t (base_after_migration b) b) v
base_cond true b v h = base_migrated b v h
base_cond false b v h = h

stopped_stands : (s : Warm) (t : StopAt) (b : Bool) → BaseStands s.base Unpowered → StateStands (AfterPower (stopped_power s t b))
stopped_stands s t true h = base_stopped s.base t.kind h
stopped_stands s t false h = base_cond (stands One 1 (t.at - s.owed) t.left) s.base (live_after t.kind) (base_stopped s.base t.kind h)

power_stands : (s : Warm) (t : Option StopAt) → BaseStands s.base Unpowered → StateStands (AfterPower (power_after s t))
power_stands s None h = base_powered s.base h
power_stands s (Some t) h = stopped_stands s t (nat_le t.at s.owed) h

-- ---- lines of a running card

after_stands : (s : Warm) (c : Card) (r : Command) (t : Option StopAt) → AreOnCard c.apps → CommandStands c.apps r → StateStands (AfterPower (line_after s c r t))
after_stands s c r t on k = grind (arith, done_stands, whole_stand, after_stop)

-- ---- lines up to the first power line

pub found_stands : (m : List (List ℕ)) (f : Option (Cause × ℕ)) → IsImage m → fault m ≡ f → BaseStands (base_of f m) Unpowered
found_stands m None image h = (means_on_card m image h, tt)
found_stands m (Some f) image h = tt

pub warmed_stands : (m : List (List ℕ)) (b : ℕ) (a : Armed) → IsImage m → BaseStands (play_at_power m b a).base Unpowered
unfolding play_at_power
warmed_stands m b a image = found_stands m (fault m) image refl

-- ---- every line

pub early_stands : (l : DeckLine) (m : List (List ℕ)) → IsLine l → IsImage m → IsImage (image_after l m)
early_stands line.Format m is h = formatted_image_lem m h
early_stands (line.Poke at x) m is h = image_set m at x h (is.1, is.0)
early_stands _ m is h = h

kind_stands : {w : Option FailedWrite} {z : State} {n : ℕ} {l : DeckLine} {u : Step} → StepKind w z n l u → IsLine l → StateFits z → StateStands z → LineStands u
kind_stands (Early {l = l} {m = m} p) is f h = record { few = tt; next = early_stands l m is h }
kind_stands (Quiet p q) is f h = record { few = tt; next = h }
kind_stands (Powers (BeforePower m b a)) is f h = record { few = tt; next = power_stands (play_at_power m b a) _ (warmed_stands m b a h) }
kind_stands (Powers (AfterPower s)) is f h = record { few = tt; next = power_stands s _ (base_on_card s.base s.live h) }
kind_stands {w} (Sends {o = o} {g = g} {j = j} {a = a} k c session_state) is f h =
    let r = line_command c session_state g (line.Sent k) in
    let k : CommandStands c.apps r = line_stands c session_state g (line.Sent k) is f.0 f.1 h.0 h.1 in
    record { few = k.few; next = after_stands (past_power (OnCard c) o j (Running session_state) g a) c r (hit_of a (moves r.items) w) h.0 k }

-- ---- plays

step_stands : (z : State) (l : ℕ × DeckLine) (w : Option FailedWrite) → IsLine l.1 → StateFits z → StateStands z → LineStands (step z l w)
step_stands z l w is f h = kind_stands (by_kind z l w) is f h

few_from : (n : ℕ) (z : State) (ls : List (ℕ × DeckLine)) (ws : List (Option FailedWrite)) → StateFits z → StateStands z → AreLines (take n (plays z ls ws)) → AllFitJournal (take n (plays z ls ws))
unfolding plays
few_from zero z ls ws f h are = tt
few_from (suc n) z [] ws f h are = tt
few_from (suc n) z (l ∷ ls) ws f h are =
    let u : Step = step z l (first_failure ws) in
    let is : IsLine l.1 = subst IsLine (step_is z l (first_failure ws)).line are.0 in
    let k : LineStands u = step_stands z l (first_failure ws) is f h in
    (k.few, few_from n u.after ls (drop 1 ws) (step_fits z l (first_failure ws) f).next k.next are.1)

-- each item of a play from an image on fits a journal, for every front of it
pub few_words : (n : ℕ) (m : List (List ℕ)) (ls : List (ℕ × DeckLine)) (ws : List (Option FailedWrite)) → IsImage m → AreLines (take n (plays (start m) ls ws)) → AllFitJournal (take n (plays (start m) ls ws))
few_words n m ls ws image are = few_from n (start m) ls ws tt image are
