-- The steps of commands: those of a run are its instructions, and those of the manager's commands are the searches of
-- their OPENs.
use Rattle.std.proofs.Common.{◌≡◌, ℕ, zero, suc, ◌+◌, ◌≤◌, Bool, true, false, cond, ◌==◌, ◌&&◌, List, [], ◌∷◌, ◌++◌, length, take, drop, Option, Some, None, Result, Ok, Err, refl, arith, sym, ap, subst, ◌∙◌}
use Rattle.std.specs.Prelude.{option_map, is_err}
use Rattle.std.specs.List.{AllByRecursion}
use Rattle.model_play.specs.model_device.specs.declared.device.Stop.{Stop}
use Rattle.model_play.specs.model_device.specs.Orders.{answer_of}
use Rattle.model_play.specs.model_device.specs.Bytes.{bytes2, lookup}
use Rattle.model_play.specs.model_device.specs.Card as model
use Rattle.model_play.specs.model_device.specs.Layout.{gaps}
use Rattle.model_play.specs.model_machine.specs.declared.instruction.Ins.{Ins}
use Rattle.model_play.specs.model_machine.specs.declared.instruction.DecodeFault.{DecodeFault}
use Rattle.model_play.specs.model_machine.specs.declared.instruction.DecodeFault.TheVariants.{Undefined, Past}
use Rattle.model_play.specs.model_machine.specs.Apdu.{ApduParts, apdu_read, rest_read, Rest}
use Rattle.model_play.specs.model_machine.specs.Code.{instruction_at}
use Rattle.model_play.specs.model_machine.specs.Row.{RowEnd, Abends, Does, row}
use Rattle.model_play.specs.model_machine.specs.Chain.{Chain, Acted, Ran, Follows, Continues, Ends, code_in, around, frame_at, row_turn, turn_of_fetch, turn_of_chain, chain_session, run_after_turn, run_of_chain, run}
use Rattle.model_play.specs.model_card.specs.Units.{UnitParts}
use Rattle.model_play.specs.model_card.specs.Manager.{Selected, SessionState, Managed, Declines, Accepts, Route, WrongLength, WrongClass, ToSelect, ToManager, ToApplication, route, route_of_parts, select}
use Rattle.model_play.specs.model_card.specs.Commands.{command, manager_command, application_command, by_route}
use Rattle.model_play.specs.Play.{send, piece_commands, load_commands}
use Rattle.mc_manager.specs.CommandDue.{is_open, most_ticks}
use Rattle.mc_card.specs.Ends.{is_passed, RunSteps, PassedSteps, RouteSteps, BeginSteps}
use Rattle.mc_script.specs.Classes.{IsManaged}
use Rattle.mc_script.specs.StepCounts.{count_of_decoded, instructions, is_open_command, command_search, OnlyFirstOpens, StepsOf}
use Rattle.mc_script.proofs.CommandLemmas.{command_turns}
use Rattle.mc_script.proofs.SendLemmas.{send_turns}

-- ---- runs

-- a turn counts if it decoded an instruction
row_count : (ch : Chain) (i : Ins) (r : RowEnd) → count_of_decoded (row_turn ch i r).turn.ins ≡ (row_turn ch i r).count
row_count ch i (Abends a) = refl
row_count ch i (Does d) = refl

fetched_count : (ch : Chain) (r : Result (Ins × ℕ) DecodeFault) → count_of_decoded (turn_of_fetch ch r).turn.ins ≡ (turn_of_fetch ch r).count
fetched_count ch (Err Undefined) = refl
fetched_count ch (Err Past) = refl
fetched_count ch (Ok i) = row_count ch i.0 (row i.0 (frame_at ch.frame i.1) ch.public (around ch))

turn_count : (ch : Chain) → count_of_decoded (turn_of_chain ch).turn.ins ≡ (turn_of_chain ch).count
unfolding turn_of_chain
turn_count ch = fetched_count ch (instruction_at (code_in (lookup ch.map ch.frame.name)) ch.frame.at)

after_count : (t : Acted) (session : List ℕ) (f : Follows) (rest : Chain → Ran) → count_of_decoded t.turn.ins ≡ t.count → ((c : Chain) → instructions (rest c).turns ≡ (rest c).count)
    → instructions (run_after_turn t session f rest).turns ≡ (run_after_turn t session f rest).count
after_count t session (Ends o) rest one more = let e : t.count + 0 ≡ t.count = omega arith in ap (λ (n : ℕ). n + 0) one ∙ e
after_count t session (Continues c) rest one more = let two = more c in omega (arith, one, two)

-- the number of instructions of a run is its count
pub run_count : (n : ℕ) (ch : Chain) → instructions (run_of_chain n ch).turns ≡ (run_of_chain n ch).count
unfolding run_of_chain
run_count zero ch = refl
run_count (suc n) ch = after_count (turn_of_chain ch) (chain_session ch) (turn_of_chain ch).follows (λ c. run_of_chain n c) (turn_count ch) (λ c. run_count n c)

-- ---- an OPEN by its bytes

open_read : (c i p q k : ℕ) (r : Option Rest) (a : ApduParts) → route_of_parts (option_map (λ r. record { cla = c; ins = i; p1 = p; p2 = q; p3 = r.p3; body = r.body; le = r.le }) r) ≡ ToManager a
    → cond (is_open a) k 0 ≡ cond (c == 0xBE && i == 0x12) k 0
open_read c i p q k None a h = absurd (cc h)
open_read c i p q k (Some r) a h =
    by_class (c == 0xFF) (c == 0 && i == 0xA4 && p == 4) (c == 0xBE) h
  where
    parts : ApduParts
    parts = record { cla = c; ins = i; p1 = p; p2 = q; p3 = r.p3; body = r.body; le = r.le }

    by_class : (x y z : Bool) → cond x WrongClass (cond y (ToSelect parts) (cond z (ToManager parts) (ToApplication parts))) ≡ ToManager a → cond (is_open a) k 0 ≡ cond (c == 0xBE && i == 0x12) k 0
    by_class true y z e = absurd (cc e)
    by_class false true z e = absurd (cc e)
    by_class false false true e = let same : parts ≡ a = cc e in ap (λ (b : ApduParts). cond (is_open b) k 0) (sym same)
    by_class false false false e = absurd (cc e)

-- the most steps of a command of the manager, by its bytes
open_search : (b : List ℕ) (k : ℕ) (a : ApduParts) → route b ≡ ToManager a → most_ticks a k ≡ cond (is_open_command b) k 0
unfolding apdu_read
open_search [] k a h = absurd (cc h)
open_search (c ∷ []) k a h = absurd (cc h)
open_search (c ∷ i ∷ []) k a h = absurd (cc h)
open_search (c ∷ i ∷ p ∷ []) k a h = absurd (cc h)
open_search (c ∷ i ∷ p ∷ q ∷ b) k a h = open_read c i p q k (rest_read b) a h

-- ---- commands

no_turns : (c : model.Card) (session_state : SessionState) (m : Managed) → instructions (manager_command c session_state m).turns ≡ 0
no_turns c session_state (Declines sw) = refl
no_turns c session_state (Accepts a) = refl

-- no instruction was executed
still : (n k old new : ℕ) (stopped : Bool) → n ≡ 0 → old ≤ new → new ≤ old + k → StepsOf n k stopped old new
still n k old new stopped none low high = record { least = λ h. omega (arith, none, low); most = omega (arith, none, high) }

-- no step was made
pub none : (n k old new : ℕ) (stopped : Bool) → n ≡ 0 → new ≡ old → StepsOf n k stopped old new
none n k old new stopped e same = record { least = λ h. omega (arith, e, same); most = omega (arith, e, same) }

-- as many steps as instructions, of something that no search began
pub exact : (n k old new : ℕ) (stopped : Bool) → new ≡ old + n → StepsOf n k stopped old new
exact n k old new stopped same = record { least = λ h. omega (arith, same); most = omega (arith, same) }

-- at the most as many steps as instructions, of something that a stop ended
pub stopped_early : (n k old new : ℕ) (stopped : Bool) → stopped ≡ true → new ≤ old + n → StepsOf n k stopped old new
stopped_early n k old new stopped is few = record { least = λ h. absurd (cc (sym is ∙ h)); most = omega (arith, few) }

run_steps : (c : model.Card) (s : Selected) (a : ApduParts) (budget k old new : ℕ) (r : Result (Unit {0}) Stop) → RunSteps (run c.apps s.name s.session a budget) (answer_of r) old new
    → StepsOf (run c.apps s.name s.session a budget).count k (is_err r) old new
run_steps c s a budget k old new (Ok u) h = record { least = λ e. omega (arith, h); most = omega (arith, h) }
run_steps c s a budget k old new (Err t) h = record { least = λ e. absurd (cc e); most = omega (arith, h) }

passed_steps : (c : model.Card) (session_state : SessionState) (s : Option Selected) (a : ApduParts) (budget k old new : ℕ) (r : Result (Unit {0}) Stop) → PassedSteps c s a budget (answer_of r) old new
    → StepsOf (instructions (application_command c session_state s a budget).turns) k (is_err r) old new
passed_steps c session_state None a budget k old new r h = none 0 k old new (is_err r) refl h
passed_steps c session_state (Some s) a budget k old new r h =
    subst (λ (n : ℕ). StepsOf n k (is_err r) old new) (sym (run_count budget _)) (run_steps c s a budget k old new r h)

routed_steps : (c : model.Card) (session_state : SessionState) (budget : ℕ) (x : Route) (k old new : ℕ) (r : Result (Unit {0}) Stop) → ((a : ApduParts) → x ≡ ToManager a → most_ticks a (2 + length (gaps c)) ≡ k)
    → RouteSteps c session_state.selected budget x (answer_of r) old new → StepsOf (instructions (by_route c session_state budget x).turns) k (is_err r) old new
routed_steps c session_state budget WrongLength k old new r opens h = none 0 k old new (is_err r) refl h
routed_steps c session_state budget WrongClass k old new r opens h = none 0 k old new (is_err r) refl h
routed_steps c session_state budget (ToSelect a) k old new r opens h = none (instructions (manager_command c session_state (select c.apps session_state a)).turns) k old new (is_err r) (no_turns c session_state (select c.apps session_state a)) h
routed_steps c session_state budget (ToManager a) k old new r opens h = grind (arith, still, no_turns)
routed_steps c session_state budget (ToApplication a) k old new r opens h = passed_steps c session_state session_state.selected a budget k old new r h

-- the steps of a command
pub command_steps : (c : model.Card) (session_state : SessionState) (bytes : List ℕ) (budget old new : ℕ) (r : Result (Unit {0}) Stop) → RouteSteps c session_state.selected budget (route bytes) (answer_of r) old new
    → StepsOf (instructions (command c session_state bytes budget).turns) (command_search c bytes) (is_err r) old new
unfolding command
command_steps c session_state bytes budget old new r h =
    routed_steps c session_state budget (route bytes) (command_search c bytes) old new r (λ a is. open_search bytes (2 + length (gaps c)) a is) h

begun_by : (c : model.Card) (x : Route) (k old new : ℕ) → ((a : ApduParts) → x ≡ ToManager a → most_ticks a (2 + length (gaps c)) ≡ k) → BeginSteps c x old new → (old ≤ new) × (new ≤ old + k)
begun_by c WrongLength k old new opens h = (omega (arith, h), omega (arith, h))
begun_by c WrongClass k old new opens h = (omega (arith, h), omega (arith, h))
begun_by c (ToSelect a) k old new opens h = (omega (arith, h), omega (arith, h))
begun_by c (ToManager a) k old new opens h = (h.0, subst (λ (j : ℕ). new ≤ old + j) (opens a refl) h.1)
begun_by c (ToApplication a) k old new opens h = (omega (arith, h), omega (arith, h))

-- the steps of a command that is not passed to an application
pub answered_steps : (c : model.Card) (session_state : SessionState) (bytes : List ℕ) (budget old new : ℕ) (stopped : Bool) → is_passed (route bytes) session_state.selected ≡ false → BeginSteps c (route bytes) old new
    → StepsOf (instructions (command c session_state bytes budget).turns) (command_search c bytes) stopped old new
answered_steps c session_state bytes budget old new stopped stays h = grind (arith, begun_by, open_search, still, command_turns)

-- the steps of the beginning of a command that is passed to an application
pub passed_begin : (c : model.Card) (bytes : List ℕ) (a : ApduParts) (old new : ℕ) → route bytes ≡ ToApplication a → BeginSteps c (route bytes) old new → new ≡ old
passed_begin c bytes a old new is h = subst (λ (x : Route). BeginSteps c x old new) is h

-- ---- the commands of a load

pub send_instructions : (c : model.Card) (session_state : SessionState) (budget : ℕ) (bs : List (List ℕ)) → AllByRecursion IsManaged bs → instructions (send c session_state budget bs).turns ≡ 0
send_instructions c session_state budget bs all = ap instructions (send_turns c session_state budget bs all)

abbrev pub NoneOpens : List (List ℕ) → Type 0
NoneOpens bs = AllByRecursion (λ c. is_open_command c ≡ false) bs

both_closed : (xs ys : List (List ℕ)) → NoneOpens xs → NoneOpens ys → NoneOpens (xs ++ ys)
both_closed [] ys h k = k
both_closed (x ∷ xs) ys h k = (h.0, both_closed xs ys h.1 k)

chosen_closed : (b : Bool) (xs : List (List ℕ)) → NoneOpens xs → NoneOpens (cond b [] xs)
chosen_closed true xs h = tt
chosen_closed false xs h = h

pieces_closed : (n ins at : ℕ) (b : List ℕ) → (ins == 0x12) ≡ false → NoneOpens (piece_commands n ins at b)
pieces_closed zero ins at b other = tt
pieces_closed (suc n) ins at b other =
    chosen_closed (length b == 0) ((0xBE ∷ ins ∷ (bytes2 at ++ length (take 248 b) ∷ take 248 b)) ∷ piece_commands n ins (at + 248) (drop 248 b)) (other, pieces_closed n ins (at + 248) (drop 248 b) other)

-- of the commands of a load the first alone is an OPEN
pub load_opens : (u : UnitParts) (fixed session : ℕ) → OnlyFirstOpens (load_commands u fixed session)
load_opens u fixed session = grind (arith, both_closed, pieces_closed)
