-- Along every play of lines of bytes from an image of bytes, each state is of bytes.
use Rattle.std.proofs.Common.{◌≡◌, ℕ, zero, suc, ◌+◌, ◌-◌, ◌/◌, ◌%◌, Bool, true, false, cond, List, [], ◌∷◌, ◌++◌, take, drop, length, Option, Some, None, refl, arith}
use Rattle.std.specs.Prelude.{◌==◌, nat_le}
use Rattle.std.specs.List.{AllByRecursion}
use Rattle.law_family.specs.model_device.specs.declared.cause.Cause.{Cause}
use Rattle.law_family.specs.model_device.specs.declared.device.Stop.{Stop}
use Rattle.law_family.specs.model_device.specs.declared.device.Stop.TheVariants as stop
use Rattle.law_family.specs.model_device.specs.Bytes.{AreBytes, bytes2}
use Rattle.law_family.specs.model_device.specs.Device.{IsImage}
use Rattle.law_family.specs.model_device.specs.Image.{One}
use Rattle.law_family.specs.model_device.specs.Stopped.{stands}
use Rattle.law_family.specs.model_device.specs.Card.{Card}
use Rattle.law_family.specs.model_device.specs.Layout.{fault}
use Rattle.law_family.specs.model_device.specs.PowerUp.{Base, OnCard, AtFault, base_after_migration, base_of}
use Rattle.law_family.specs.model_device.proofs.ImageLemmas.{all_append}
use Rattle.law_family.specs.model_device.proofs.ListLemmas.{pair_bytes}
use Rattle.law_family.specs.model_card.specs.Units.{UnitParts}
use Rattle.law_family.specs.model_card.specs.Items.{moves, StopAt, at_stop}
use Rattle.law_family.specs.model_card.specs.Manager.{SessionState, route}
use Rattle.law_family.specs.model_card.specs.Commands.{Command}
use Rattle.law_family.specs.model_play.specs.DeckGrammar.{DeckLine}
use Rattle.law_family.specs.model_play.specs.DeckGrammar as line
use Rattle.law_family.specs.model_play.specs.Play.{Armed, Live, Running, Unpowered, Warm, State, BeforePower, AfterPower, Step, select_bytes, delete_bytes, piece_commands, section_commands, load_commands, line_command, hit_of, FailedWrite, live_after, power_live, power_after, stopped_power, line_after, step, play_at_power, plays, first_failure, start}
use Rattle.law_family.specs.model_play.specs.ReadyAgain.{IsLine}
use Rattle.law_family.specs.model_play.proofs.LineKinds.{past_power, StepKind, Early, Quiet, Powers, Sends, by_kind}
use Rattle.law_family.proofs.FewLines.{with_pair, early_stands}
use Rattle.law_bytes.specs.OfChains.{AreByteApps}
use Rattle.law_bytes.specs.OfPlays.{IsByteSession, IsByteLive, IsByteBase, IsByteState, AreByteStates, PlayBytesLaw}
use Rattle.law_bytes.proofs.ByteLists.{taken}
use Rattle.law_bytes.proofs.CardBytes.{means_bytes, items_bytes, whole_bytes}
use Rattle.law_bytes.proofs.CommandBytes.{IsByteRoute, route_bytes, managers_bytes, selects_bytes, IsByteResult, commanded, sent_bytes}
use Rattle.law_family.specs.model_device.proofs.ListLemmas.{bytes_from}

-- ---- the commands of a line

pieces : (k ins at : ℕ) (b : List ℕ) → AreBytes b → AllByRecursion (λ b. IsByteRoute (route b)) (piece_commands k ins at b)
pieces zero ins at b h = tt
pieces (suc k) ins at b h =
    by (length b == 0) (managers_bytes ins (at / 256 % 256) (at % 256) (length (take 248 b) ∷ take 248 b) (taken 248 b h), pieces k ins (at + 248) (drop 248 b) (bytes_from b 248 h))
  where
    by : (t : Bool) → AllByRecursion (λ b. IsByteRoute (route b)) ((0xBE ∷ ins ∷ (bytes2 at ++ length (take 248 b) ∷ take 248 b)) ∷ piece_commands k ins (at + 248) (drop 248 b))
        → AllByRecursion (λ b. IsByteRoute (route b)) (cond t [] ((0xBE ∷ ins ∷ (bytes2 at ++ length (take 248 b) ∷ take 248 b)) ∷ piece_commands k ins (at + 248) (drop 248 b)))
    by true r = tt
    by false r = r

loads : (u : UnitParts) (fixed session : ℕ) → AreBytes u.code → AreBytes u.init → AreBytes u.dir → AreBytes u.fci → AllByRecursion (λ b. IsByteRoute (route b)) (load_commands u fixed session)
loads u fixed session code init dir fci =
    let P = λ (b : List ℕ). IsByteRoute (route b) in
    let c = section_commands 0x24 u.code in
    let i = section_commands 0x26 u.init in
    let d = section_commands 0x20 u.dir in
    let f = section_commands 0x22 u.fci in
    let last : List (List ℕ) = (0xBE ∷ 0x16 ∷ 0x00 ∷ 0x00 ∷ []) ∷ [] in
    let a1 : List ℕ = bytes2 (length u.code) in
    let a2 : List ℕ = a1 ++ bytes2 fixed in
    let a3 : List ℕ = a2 ++ bytes2 (length u.init) in
    let a4 : List ℕ = a3 ++ bytes2 session in
    let a5 : List ℕ = a4 ++ bytes2 (length u.dir) in
    let a6 : List ℕ = a5 ++ bytes2 (length u.fci) in
    let sizes : AreBytes a6 = with_pair a5 (length u.fci) (with_pair a4 (length u.dir) (with_pair a3 session (with_pair a2 (length u.init) (with_pair a1 fixed (pair_bytes (length u.code)))))) in (
      managers_bytes 0x12 0x00 0x00 (12 ∷ a6) sizes,
      all_append P (c ++ i ++ d ++ f) last
          (all_append P (c ++ i ++ d) f
          (all_append P (c ++ i) d (all_append P c i (pieces (length u.code) 0x24 0 u.code code) (pieces (length u.init) 0x26 0 u.init init)) (pieces (length u.dir) 0x20 0 u.dir dir))
          (pieces (length u.fci) 0x22 0 u.fci fci)) (managers_bytes 0x16 0x00 0x00 [] tt, tt),
    )

line_bytes : (c : Card) (session_state : SessionState) (budget : ℕ) (l : DeckLine) → IsLine l → AreByteApps c.apps → IsByteSession session_state → IsByteResult (line_command c session_state budget l)
line_bytes c session_state budget (line.Sent (line.Select n)) k apps is = commanded c session_state (select_bytes n) budget (selects_bytes 0x0C (length n ∷ n)) apps is
line_bytes c session_state budget (line.Sent (line.Delete n)) k apps is = commanded c session_state (delete_bytes n) budget (managers_bytes 0x18 0x00 0x00 (length n ∷ n) k) apps is
line_bytes c session_state budget (line.Sent (line.Apdu b)) k apps is = commanded c session_state b budget (route_bytes b k) apps is
line_bytes c session_state budget (line.Sent (line.Load u fixed session)) k apps is = sent_bytes c session_state budget (load_commands u fixed session) (loads u fixed session k.0 k.1 k.2 k.3) apps is
line_bytes c session_state budget _ k apps is = record { items = tt; session_state = is }

-- ---- power lines

after_stop : (k : Stop) → IsByteLive (live_after k)
after_stop stop.Off = tt
after_stop stop.Worn = tt

unpowered : (b : Base) (v : Live) → IsByteBase b v → IsByteBase b Unpowered
unpowered (OnCard c) v h = (h.0, tt)
unpowered (AtFault cause p) v h = tt

stopped : (b : Base) (k : Stop) → IsByteBase b Unpowered → IsByteBase b (live_after k)
stopped (OnCard c) k h = (h.0, after_stop k)
stopped (AtFault cause p) k h = tt

powered : (b : Base) → IsByteBase b Unpowered → IsByteBase (base_after_migration b) (power_live b)
powered (OnCard c) h = (h.0, record { selected = tt; load = tt })
powered (AtFault cause p) h = tt

migrated : (t : Bool) (b : Base) (v : Live) → IsByteBase b v → IsByteBase (cond t (base_after_migration b) b) v
migrated t b v h = grind arith

power_stopped : (s : Warm) (t : StopAt) (b : Bool) → IsByteBase s.base Unpowered → IsByteState (AfterPower (stopped_power s t b))
power_stopped s t true h = stopped s.base t.kind h
power_stopped s t false h = migrated (stands One 1 (t.at - s.owed) t.left) s.base (live_after t.kind) (stopped s.base t.kind h)

power_bytes : (s : Warm) (t : Option StopAt) → IsByteBase s.base Unpowered → IsByteState (AfterPower (power_after s t))
power_bytes s None h = powered s.base h
power_bytes s (Some t) h = power_stopped s t (nat_le t.at s.owed) h

-- ---- lines of a running card

after_bytes : (s : Warm) (c : Card) (r : Command) (t : Option StopAt) → AreByteApps c.apps → IsByteResult r → IsByteState (AfterPower (line_after s c r t))
after_bytes s c r None apps k = (items_bytes r.items c.apps apps k.items, k.session_state)
after_bytes s c r (Some t) apps k = (items_bytes (at_stop r.items t.at t.left).whole c.apps apps (whole_bytes r.items t.at t.left k.items), after_stop t.kind)

-- ---- lines up to the first power line

found_bytes : (m : List (List ℕ)) (f : Option (Cause × ℕ)) → IsImage m → fault m ≡ f → IsByteBase (base_of f m) Unpowered
found_bytes m None image h = (means_bytes m image h, tt)
found_bytes m (Some f) image h = tt

warmed : (m : List (List ℕ)) (b : ℕ) (a : Armed) → IsImage m → IsByteBase (play_at_power m b a).base Unpowered
unfolding play_at_power
warmed m b a image = found_bytes m (fault m) image refl

-- ---- every line

kind_bytes : {w : Option FailedWrite} {z : State} {n : ℕ} {l : DeckLine} {u : Step} → StepKind w z n l u → IsLine l → IsByteState z → IsByteState u.after
kind_bytes (Early {l = l} {m = m} p) is h = early_stands l m is h
kind_bytes (Quiet p q) is h = h
kind_bytes (Powers (BeforePower m b a)) is h = power_bytes (play_at_power m b a) _ (warmed m b a h)
kind_bytes (Powers (AfterPower s)) is h = power_bytes s _ (unpowered s.base s.live h)
kind_bytes {w} (Sends {o = o} {g = g} {j = j} {a = a} k c session_state) is h =
    let r = line_command c session_state g (line.Sent k) in
    after_bytes (past_power (OnCard c) o j (Running session_state) g a) c r (hit_of a (moves r.items) w) h.0 (line_bytes c session_state g (line.Sent k) is h.0 h.1)

-- a line of bytes from a state of bytes, whether a write of it fails or not
pub step_bytes : (z : State) (l : ℕ × DeckLine) (w : Option FailedWrite) → IsLine l.1 → IsByteState z → IsByteState (step z l w).after
step_bytes z l w is h = kind_bytes (by_kind z l w) is h

play_from : (z : State) (ls : List (ℕ × DeckLine)) (ws : List (Option FailedWrite)) → AllByRecursion (λ l. IsLine l.1) ls → IsByteState z → AreByteStates (plays z ls ws)
unfolding plays
play_from z [] ws k h = tt
play_from z (l ∷ ls) ws k h =
    let next : IsByteState (step z l (first_failure ws)).after = step_bytes z l (first_failure ws) k.0 h in
    (next, play_from (step z l (first_failure ws)).after ls (drop 1 ws) k.1 next)

-- each state of a play of bytes is of bytes
pub play_bytes : PlayBytesLaw
play_bytes ls m ws k image = play_from (start m) ls ws k image
