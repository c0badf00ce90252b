-- The turn of a chain shows its event.
use Rattle.std.proofs.Common.{◌≡◌, ℕ, zero, suc, Bool, true, false, cond, List, [], ◌∷◌, Option, Some, None, Result, Ok, Err, refl, sym, ap, subst}
use Rattle.std.specs.Prelude.{bytes_eq, nat_lt}
use Rattle.law_promise.specs.model_events.specs.model_machine.specs.declared.instruction.Ins.{Ins}
use Rattle.law_promise.specs.model_events.specs.model_machine.specs.declared.instruction.DecodeFault.{DecodeFault}
use Rattle.law_promise.specs.model_events.specs.model_machine.specs.declared.instruction.DecodeFault.TheVariants.{Undefined, Past}
use Rattle.law_promise.specs.model_events.specs.model_machine.specs.declared.machine.Abend.TheVariants.{A09}
use Rattle.law_promise.specs.model_events.specs.model_device.specs.Bytes.{lookup}
use Rattle.law_promise.specs.model_events.specs.model_machine.specs.Code.{instruction_at}
use Rattle.law_promise.specs.model_events.specs.model_machine.specs.Frame.{Effect, Frame, la_of}
use Rattle.law_promise.specs.model_events.specs.model_machine.specs.Primitives.{Then, Goes, Exits, Delegates}
use Rattle.law_promise.specs.model_events.specs.model_machine.specs.Row.{RowEnd, Abends, Does, row}
use Rattle.law_promise.specs.model_events.specs.model_machine.specs.Chain.{Abended, Chain, Continues, Ends, Follows, Outcome, after_exit, around, chain_after_call, chain_after_effect, code_in, depth_of, done_turn, end_of, follows, frame_at, pair_of, reply_of, row_turn, turn_of, turn_of_chain, turn_of_fetch}
use Rattle.law_promise.specs.model_events.specs.model_text.specs.TurnText.{turn_line}
use Rattle.law_promise.specs.model_events.specs.Amounts.{turn_text}
use Rattle.law_promise.specs.model_events.specs.Deeds.{Deed}
use Rattle.law_promise.specs.History.{done_event, event_if, fetched_event, is_first, is_too_long, row_event}
use Rattle.model_rules.specs.Happenings.{Event, Did, rule_watch}
use Rattle.model_rules.specs.Keeping.{line_of_deed}
use Rattle.law_events.specs.Events.{event_of}
use Rattle.law_events.specs.Turns.{Shows}

-- an instruction that was done
abbrev deed_of : Chain → Ins → Effect → Deed
deed_of ch i e = record { frame = ch.frame; public = ch.public; direct = is_first ch.below; depth = depth_of ch; ins = i; effect = e }

same_text : (ch : Chain) (i : Ins) (e : Effect) (end : Option Outcome) (wrote : Option ℕ)
    → turn_text (record { depth = depth_of ch; at = ch.frame.at; ins = Some i; dt = e.frame.dt; c = e.frame.c; z = e.frame.z; end = end; wrote = wrote }) ≡ line_of_deed (deed_of ch i e)
unfolding turn_line
same_text ch i e end wrote = refl

module _ (name : List ℕ) (ch : Chain) (i : Ins) (e : Effect) (pairs : List (List ℕ × List ℕ)) where
  -- the turn of an instruction shows the event
  abbrev Seen : Follows → Option Event → Type 0
  Seen f event = Shows ch (done_turn ch i e f pairs).turn (end_of f) event

  went : (c : Chain) → Seen (Continues c) (Some (Did (deed_of ch i e)))
  went c = record { frame = refl; public = refl; ins = refl; text = same_text ch i e None _ }

  left : (b : Bool) (s : Chain) → Seen (cond b (Ends (Abended A09)) (Ends (reply_of s))) (done_event b (rule_watch name) (deed_of ch i e))
  left true s = (refl, λ n h. absurd (cc n))
  left false s = record { frame = refl; public = refl; ins = refl; text = same_text ch i e (Some (reply_of s)) _ }

  exited : (s : Chain) (fs : List Frame) → Seen (after_exit s fs) (done_event (is_too_long (is_first fs) Exits s.public) (rule_watch name) (deed_of ch i e))
  exited s [] = left (nat_lt 1024 (la_of s.public)) s
  exited s (f ∷ fs) = went (record s { frame = f; below = fs })

  done : (next : Then) → Seen (follows (chain_after_effect ch e) next) (done_event (is_too_long (is_first ch.below) next e.public) (rule_watch name) (deed_of ch i e))
  done Goes = went (chain_after_effect ch e)
  done Exits = exited (chain_after_effect ch e) ch.below
  done (Delegates n) = let s = chain_after_effect ch e in went (chain_after_call s n (lookup s.map n))

row_seen : (name : List ℕ) (ch : Chain) (i : Ins) (r : RowEnd) → (let t = row_turn ch i r in Shows ch t.turn t.turn.end (row_event (rule_watch name) ch i r))
row_seen name ch i (Abends cause) = (refl, λ n h. absurd (cc n))
row_seen name ch i (Does d) = done name ch i d.effect (pair_of ch.frame.name d.next) d.next

fetch_seen : (name : List ℕ) (ch : Chain) (r : Result (Ins × ℕ) DecodeFault) → (let t = turn_of_fetch ch r in Shows ch t.turn t.turn.end (fetched_event (rule_watch name) ch r))
fetch_seen name ch (Err Undefined) = (refl, λ n h. absurd (cc h))
fetch_seen name ch (Err Past) = (refl, λ n h. absurd (cc h))
fetch_seen name ch (Ok i) = row_seen name ch i.0 (row i.0 (frame_at ch.frame i.1) ch.public (around ch))

-- a turn of the application shows its event
pub own_turn : (name : List ℕ) (n : ℕ) (ch : Chain) → bytes_eq ch.frame.name name ≡ true → (let t = (turn_of n ch).turn in Shows ch t t.end (event_of (rule_watch name) n ch))
unfolding turn_of_chain
own_turn name zero ch h = (refl, refl)
own_turn name (suc n) ch h =
    let t = (turn_of_chain ch).turn in
    subst (λ (b : Bool). Shows ch t t.end (event_if b (rule_watch name) ch)) (sym h) (fetch_seen name ch (instruction_at (code_in (lookup ch.map ch.frame.name)) ch.frame.at))

-- one of another application has none
pub other_turn : (name : List ℕ) (n : ℕ) (ch : Chain) → bytes_eq ch.frame.name name ≡ false → event_of (rule_watch name) n ch ≡ None
other_turn name zero ch h = refl
other_turn name (suc n) ch h = ap (λ (b : Bool). event_if b (rule_watch name) ch) h

-- ---- depths

row_depth : (ch : Chain) (i : Ins) (r : RowEnd) → (row_turn ch i r).turn.depth ≡ depth_of ch
row_depth ch i (Abends cause) = refl
row_depth ch i (Does d) = refl

fetch_depth : (ch : Chain) (r : Result (Ins × ℕ) DecodeFault) → (turn_of_fetch ch r).turn.depth ≡ depth_of ch
fetch_depth ch (Err Undefined) = refl
fetch_depth ch (Err Past) = refl
fetch_depth ch (Ok i) = row_depth ch i.0 (row i.0 (frame_at ch.frame i.1) ch.public (around ch))

-- a turn has the depth of its chain
pub turn_depth : (n : ℕ) (ch : Chain) → (turn_of n ch).turn.depth ≡ depth_of ch
unfolding turn_of_chain
turn_depth zero ch = refl
turn_depth (suc n) ch = fetch_depth ch (instruction_at (code_in (lookup ch.map ch.frame.name)) ch.frame.at)
