-- No line of a play makes more device writes than its row of the table says.
use Rattle.std.proofs.Common.{◌≡◌, ℕ, zero, suc, ◌≤◌, Bool, true, false, cond, List, [], ◌∷◌, take, Option, Some, None, sym, subst, arith}
use Rattle.std.specs.Prelude.{⊤, nat_le}
use Rattle.std.proofs.lemmas.Bool.{leb-true}
use Rattle.law_family.specs.model_device.specs.declared.device.Stop.TheVariants as stop
use Rattle.law_family.specs.model_device.specs.Device.{IsImage}
use Rattle.law_family.specs.model_device.specs.Card.{Card}
use Rattle.law_family.specs.model_device.specs.PowerUp.{OnCard, migration}
use Rattle.law_family.specs.model_card.specs.Items.{moves, StopAt}
use Rattle.law_family.specs.model_card.specs.Commands.{Command}
use Rattle.law_family.specs.model_play.specs.DeckGrammar.{DeckLine}
use Rattle.law_family.specs.model_play.specs.DeckGrammar as line
use Rattle.law_family.specs.model_play.specs.Play.{Armed, Running, Unpowered, Warm, State, BeforePower, AfterPower, Step, line_command, hit_of, moves_with, FailedWrite, power_moves, power_step, line_after, step, play_at_power, plays, moves_of, MayHit, Possible}
use Rattle.law_family.specs.model_play.specs.Given.{budget_in}
use Rattle.law_family.specs.model_play.specs.ReadyAgain.{IsLine, AreLines}
use Rattle.law_family.specs.model_play.proofs.PlayLemmas.{step_is}
use Rattle.law_family.proofs.CardFacts.{AreOnCard, done_stands, whole_stand}
use Rattle.law_family.proofs.FewItems.{CommandStands}
use Rattle.law_family.proofs.PlaySizes.{StateFits, step_fits}
use Rattle.law_family.proofs.ReadyLines.{owed_most, migration_most, at_stop_owed}
use Rattle.law_wear.specs.Most.{most_atomic, most_writes}
use Rattle.law_wear.specs.Laws.{atomic_writes, instructions, WritesFew, EachWritesFew, writes_of_play, most_of_play, WearLaw}
use Rattle.law_wear.proofs.Loads.{Good}
use Rattle.law_wear.proofs.Lines.{line_wears, line_atomic, most_more}
use Rattle.law_family.proofs.FewLines.{line_stands, early_stands, BaseStands, after_stop, base_on_card, warmed_stands}
use Rattle.law_family.specs.model_play.proofs.LineKinds.{past_power, StepKind, Early, Quiet, Powers, Sends, by_kind}

-- ---- the writes that recovery may have to make

-- ---- what is kept from line to line

-- recovery has to make few writes, and the applications are those of a card
abbrev StateGood : State → Type 0
StateGood (BeforePower m b a) = IsImage m
StateGood (AfterPower s) = (s.owed ≤ 65) × BaseStands s.base s.live

-- ---- stops

-- a failed write of a line of this many device writes
abbrev IsWithin : Option FailedWrite → ℕ → Type 0
IsWithin None m = ⊤
IsWithin (Some w) m = w.at ≤ m

cut_within : (k m : ℕ) (x : List ℕ) (b : Bool) → nat_le k m ≡ b → moves_with m (cond b (Some (record { kind = stop.Off; at = k; left = x })) None) ≤ m
cut_within k m x true e = leb-true k m e
cut_within k m x false e = omega arith

hit_within : (a : Armed) (m : ℕ) (w : Option FailedWrite) → IsWithin w m → moves_with m (hit_of a m w) ≤ m
hit_within a m w h = grind (arith, cut_within)

possible_within : (z : State) (l : ℕ × DeckLine) (w : Option FailedWrite) (m : ℕ) → moves_of z l ≤ m → MayHit z l w → IsWithin w m
possible_within z l None m h k = tt
possible_within z l (Some w) m h k = let high = k.high in omega (arith, h, high)

-- what a line writes, runs and leaves
record LineWears (z : State) (l : ℕ × DeckLine) (w : Option FailedWrite) (u : Step) : Type 0 where
  few : MayHit z l w → u.moves ≤ most_writes (instructions u.turns) l.1
  atomic : atomic_writes u.items ≤ most_atomic (instructions u.turns) l.1
  count : instructions u.turns ≤ budget_in z
  next : StateGood u.after

-- ---- power lines

power_few : (s : Warm) → s.owed ≤ 65 → power_moves s ≤ 71
power_few s few = let more : migration s.base ≤ 6 = migration_most s.base in omega (arith, few, more)

power_wears : (n : ℕ) (z : State) (s : Warm) (a : Armed) (w : Option FailedWrite) → moves_of z (n, line.Power) ≤ power_moves s → s.owed ≤ 65 → BaseStands s.base Unpowered
    → LineWears z (n, line.Power) w (power_step n z s (hit_of a (power_moves s) w))
power_wears n z s a w all few h = grind (arith, hit_of a (power_moves s) w, power_few s few)

-- ---- lines of a running card

after_good : (s : Warm) (c : Card) (r : Command) (t : Option StopAt) → s.owed ≤ 65 → AreOnCard c.apps → CommandStands c.apps r → StateGood (AfterPower (line_after s c r t))
after_good s c r t few on k = grind (arith, done_stands, at_stop_owed, whole_stand, after_stop)

-- ---- lines up to the first power line

warmed_owed : (m : List (List ℕ)) (b : ℕ) (a : Armed) → (play_at_power m b a).owed ≤ 65
unfolding play_at_power
warmed_owed m b a = owed_most m

-- ---- every line

kind_wears : {w : Option FailedWrite} {z : State} {n : ℕ} {l : DeckLine} {u : Step} → StepKind w z n l u → IsLine l → StateFits z → StateGood z → LineWears z (n, l) w u
unfolding moves_of step
kind_wears (Early {l = l} {m = m} p) is f h = record { few = λ may. omega arith; atomic = omega arith; count = omega arith; next = early_stands l m is h }
kind_wears (Quiet p q) is f h = record { few = λ may. omega arith; atomic = omega arith; count = omega arith; next = h }
kind_wears {w} (Powers {n = n} (BeforePower m b a)) is f h =
    let s = play_at_power m b a in
    power_wears n (BeforePower m b a) s s.armed w (omega arith) (warmed_owed m b a) (warmed_stands m b a h)
kind_wears {w} (Powers {n = n} (AfterPower s)) is f h = power_wears n (AfterPower s) s s.armed w (omega arith) h.0 (base_on_card s.base s.live h.1)
kind_wears {w} (Sends {n = n} {o = o} {g = g} {j = j} {a = a} k c session_state) is f h =
    let l = line.Sent k in
    let s = past_power (OnCard c) o j (Running session_state) g a in
    let r = line_command c session_state g l in
    let good : Good c session_state = record { limited = f.0; fits = f.1; on = h.1.0; stands = h.1.1 } in
    let stand : CommandStands c.apps r = line_stands c session_state g l is good.limited good.fits good.on good.stands in
    let wears = line_wears c session_state g l is good in
    let writes = wears.writes in
    record {
      few = λ may. let hit = hit_within a (moves r.items) w (possible_within (AfterPower s) (n, l) w (moves r.items) (omega arith) may) in omega (arith, hit, writes);
      atomic = line_atomic c session_state g l good;
      count = wears.count;
      next = after_good s c r (hit_of a (moves r.items) w) h.0 h.1.0 stand;
    }

-- ---- plays

step_wears : (z : State) (l : ℕ × DeckLine) (w : Option FailedWrite) → IsLine l.1 → StateFits z → StateGood z → LineWears z l w (step z l w)
step_wears z l w is f h = kind_wears (by_kind z l w) is f h

line_few : (z : State) (l : ℕ × DeckLine) (w : Option FailedWrite) → MayHit z l w → LineWears z l w (step z l w) → WritesFew (step z l w)
line_few z l w may h =
    let u = step z l w in
    let is = step_is z l w in
    let line : u.line ≡ l.1 = is.line in
    let few : u.moves ≤ most_writes (instructions u.turns) u.line = subst (λ (k : DeckLine). u.moves ≤ most_writes (instructions u.turns) k) (sym line) (h.few may) in
    let count : instructions u.turns ≤ budget_in u.before = subst (λ (y : State). instructions u.turns ≤ budget_in y) (sym is.before) h.count in
    let atomic : atomic_writes u.items ≤ most_atomic (instructions u.turns) u.line = subst (λ (k : DeckLine). atomic_writes u.items ≤ most_atomic (instructions u.turns) k) (sym line) h.atomic in
    let more : most_writes (instructions u.turns) u.line ≤ most_writes (budget_in u.before) u.line = most_more (instructions u.turns) (budget_in u.before) u.line count in
    record { writes = few; count = count; atomic = atomic; within = omega (arith, few, more) }

each_from : (n : ℕ) (z : State) (ls : List (ℕ × DeckLine)) (ws : List (Option FailedWrite)) → StateFits z → StateGood z → Possible z ls ws → AreLines (take n (plays z ls ws)) → EachWritesFew (take n (plays z ls ws))
unfolding plays
each_from zero z ls ws f h may are = tt
each_from (suc n) z [] ws f h may are = tt
each_from (suc n) z (l ∷ ls) [] f h may are = absurd may
each_from (suc n) z (l ∷ ls) (w ∷ ws) f h may are =
    let u : Step = step z l w in
    let is : IsLine l.1 = subst IsLine (step_is z l w).line are.0 in
    let k : LineWears z l w u = step_wears z l w is f h in
    (line_few z l w may.0 k, each_from n u.after ls ws (step_fits z l w f).next k.next may.1 are.1)

summed : (ts : List Step) → EachWritesFew ts → writes_of_play ts ≤ most_of_play ts
summed [] h = omega arith
summed (t ∷ ts) h = let first = h.0.within in let rest = summed ts h.1 in omega (arith, first, rest)

-- no line of a play makes more device writes than its row of the table allows
pub wear_law : WearLaw
wear_law ls m ws may image n are = grind (arith, each_from, summed)
