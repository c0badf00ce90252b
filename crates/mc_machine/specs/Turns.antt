-- What a turn of the code returns, and the state that it leaves.
use Rattle.std.specs.Prelude.{◌≡◌, ℕ, ◌+◌, ◌-◌, Bool, true, false, cond, nat_lt, ◌||◌, ◌≤◌, bytes_eq, min, List, [], ◌∷◌, length, take, option_map, Option, Some, None, IfSome, Result, Ok, Err}
use Rattle.std.specs.List.{AllByRecursion}
use Rattle.law_machine.specs.model_machine.specs.declared.machine.Abend.TheVariants.{A09}
use Rattle.law_machine.specs.model_machine.specs.declared.instruction.Ins.{Ins}
use Rattle.law_machine.specs.model_machine.specs.declared.instruction.Ins.TheVariants as ins
use Rattle.law_machine.specs.model_device.specs.declared.device.Stop.{Stop}
use Rattle.law_machine.specs.model_device.specs.Orders.{InOrder}
use Rattle.law_machine.specs.model_machine.specs.Frame.{la_of, sw_of}
use Rattle.law_machine.specs.model_machine.specs.Chain.{Chain, Turn as ModelTurn, Acted, Follows, Continues, Ends, chain_session}
use Rattle.law_machine.specs.model_machine.specs.Chain as model
use Rattle.law_machine.specs.FewWords.{most_words}
use Rattle.mc_bank.specs.Bank.{BankState, name_or}
use Rattle.mc_segs.specs.HeldFrames.{Held, FitsBank}
use Rattle.mc_segs.specs.declared.ends.Halt.{Halt}
use Rattle.mc_segs.specs.declared.ends.Halt.TheVariants as halt
use Rattle.mc_machine.specs.Chains.{Chained, RunsAs, ChainWrote, session_in}
use Rattle.mc_apdu.specs.declared.reply.Reply.{Reply}
use Rattle.mc_machine.specs.declared.outcome.Outcome.{Outcome}
use Rattle.mc_machine.specs.declared.outcome.Outcome.TheVariants as outcome
use Rattle.mc_machine.specs.declared.outcome.End.{End}
use Rattle.mc_machine.specs.declared.outcome.End.TheVariants as end
use Rattle.mc_machine.specs.declared.outcome.Step.{Step}
use Rattle.mc_machine.specs.declared.outcome.Turn.{Turn}
use Rattle.mc_machine.specs.declared.outcome.BriefTurn.{BriefTurn}
use Rattle.mc_bank.specs.declared.bank.Bank.{Ghosts}

-- ---- ends

-- the outcome of the definitions that an outcome of the code is
abbrev pub outcome_value : Outcome → model.Outcome
outcome_value (outcome.Reply r) = model.Reply r.body.items r.sw
outcome_value (outcome.Abend a) = model.Abended a

-- an outcome is a reply
abbrev pub IsReply : Outcome → Type 0
IsReply (outcome.Reply r) = Unit {0}
IsReply (outcome.Abend a) = ⊥

-- the outcome of an end, with the given public bytes and Le
abbrev pub end_value : List ℕ → ℕ → End → model.Outcome
end_value public le end.Reply = model.Reply (take (min (la_of public) le) public) (sw_of public)
end_value public le (end.Abend a) = model.Abended a

-- the outcome of an end, if the outcome of a reply is the given one
abbrev pub outcome_put : End → Outcome → Outcome
outcome_put end.Reply o = o
outcome_put (end.Abend a) o = outcome.Abend a

-- the outcome of an end whose reply is the given one
abbrev pub outcome_by : End → Reply → Outcome
outcome_by e r = outcome_put e (outcome.Reply r)

-- the outcome of an end, or a `Stop`
abbrev pub run_outcome : Result End Stop → Outcome → Result Outcome Stop
run_outcome (Ok e) o = Ok (outcome_put e o)
run_outcome (Err s) o = Err s

-- the outcome of a run whose reply is the given one, or its `Stop`
abbrev pub reply_or_stop : Result End Stop → Reply → Result Outcome Stop
reply_or_stop x r = run_outcome x (outcome.Reply r)

-- a reply has at most 1,024 bytes
abbrev pub EndFits : List ℕ → End → Type 0
EndFits public end.Reply = la_of public ≤ 1024
EndFits public (end.Abend a) = Unit {0}

-- an outcome agrees with an end: that of an abend is this abend, that of a reply is a reply
abbrev pub AgreesWithEnd : Option End → Outcome → Type 0
AgreesWithEnd None o = Unit {0}
AgreesWithEnd (Some end.Reply) o = IsReply o
AgreesWithEnd (Some (end.Abend a)) o = o ≡ outcome.Abend a

-- the outcome of the end of a turn, if it has one
abbrev pub end_outcome : Option End → Outcome → Option Outcome
end_outcome None o = None
end_outcome (Some e) o = Some o

-- ---- turns

-- the turn that a turn without its reply is, if the outcome of its end is the given one
abbrev pub full_turn : BriefTurn → Outcome → Turn
full_turn t o = record { depth = t.depth; at = t.at; ins = t.ins; dt = t.dt; flags = t.flags; end = end_outcome t.end o }

-- that turn, or a `Stop`
abbrev pub brief_result : Result BriefTurn Stop → Outcome → Result Turn Stop
brief_result (Ok t) o = Ok (full_turn t o)
brief_result (Err s) o = Err s

-- the turn of the definitions that a turn of the code is, with the number of words that it wrote, which the code's turn
-- does not have
abbrev pub turn_value : Turn → Option ℕ → ModelTurn
turn_value t wrote =
    record { depth = t.depth; at = t.at; ins = t.ins; dt = t.dt; c = t.flags.c; z = t.flags.z; end = option_map outcome_value t.end; wrote = wrote }

-- the turn of the definitions that a record without its place is, with the depth and place of its frame, the public
-- bytes and Le of its end, and the number of words that it wrote
abbrev pub step_value : ℕ → ℕ → List ℕ → ℕ → Step → Option ℕ → ModelTurn
step_value depth at public le t wrote =
    record { depth = depth; at = at; ins = t.ins; dt = t.dt; c = t.flags.c; z = t.flags.z; end = option_map (end_value public le) t.end; wrote = wrote }

-- the turn of the definitions that a turn without its reply is, with the public bytes and Le of its end, and the number
-- of words that it wrote
abbrev pub brief_value : List ℕ → ℕ → BriefTurn → Option ℕ → ModelTurn
brief_value public le t wrote =
    record { depth = t.depth; at = t.at; ins = t.ins; dt = t.dt; c = t.flags.c; z = t.flags.z; end = option_map (end_value public le) t.end; wrote = wrote }

-- what follows a turn: the chain goes on as that of the definitions does, or it has ended, with the session bytes that
-- it had
abbrev pub Follow : BankState → (ℕ → Option (List ℕ)) → Chained → Chain → Follows → Type 0
Follow s named c ch (Continues next) = RunsAs s named c next
Follow s named c ch (Ends o) = session_in c ≡ chain_session ch

-- a turn without a `Stop`: its atomic writes were done, the bank goes on, the budget is counted
pub record TurnActs {B : Type 0} (ghosts : Ghosts B) (b e : B) (c d : Chained) (ch : Chain) (t : Acted) : Type 0 where
  pub writes : InOrder (ChainWrote ghosts) b t.writes (Ok tt) e
  pub going : (ghosts.state e).stopped ≡ false
  pub left : d.left + t.count ≡ c.left
  pub follows : Follow (ghosts.state e) (ghosts.named e) d ch t.follows

-- a turn by its result: it was done, and its record is that of the definitions; or a `Stop` ended its write
abbrev pub ActDone : {B : Type 0} → Ghosts B → B → B → Chained → Chained → Chain → Acted → Result Step Stop → Type 0
ActDone ghosts b e c d ch t (Ok step) = TurnActs ghosts b e c d ch t × (t.turn ≡ step_value (length c.below + 1) c.running.frame.at d.public d.le step t.turn.wrote)
ActDone ghosts b e c d ch t (Err stop) = InOrder (ChainWrote ghosts) b t.writes (Err stop) e

-- a turn without its reply by its result: it was done, and is that of the definitions; or a `Stop` ended its write
abbrev pub BriefDone : {B : Type 0} → Ghosts B → B → B → Chained → Chained → Chain → Acted → Result BriefTurn Stop → Type 0
BriefDone ghosts b e c d ch t (Ok turn) = TurnActs ghosts b e c d ch t × (t.turn ≡ brief_value d.public d.le turn t.turn.wrote)
BriefDone ghosts b e c d ch t (Err stop) = InOrder (ChainWrote ghosts) b t.writes (Err stop) e

-- a turn with its place by its result: it was done, and is that of the definitions; or a `Stop` ended its write
abbrev pub TurnDone : {B : Type 0} → Ghosts B → B → B → Chained → Chained → Chain → Acted → Result Turn Stop → Type 0
TurnDone ghosts b e c d ch t (Ok turn) = TurnActs ghosts b e c d ch t × (t.turn ≡ turn_value turn t.turn.wrote)
TurnDone ghosts b e c d ch t (Err stop) = InOrder (ChainWrote ghosts) b t.writes (Err stop) e

-- ---- the number of words that a turn writes

-- whether a frame exits with an instruction
abbrev pub is_exit : Ins → Bool
is_exit ins.Exit = true
is_exit (ins.Exitsw sw) = true
is_exit (ins.Exitla la) = true
is_exit (ins.Exitswla sw la) = true
is_exit _ = false

-- the most words that the instruction of a turn changes: 64 if it may commit, else 33; none if there is no instruction
abbrev pub most_reported : Option Ins → ℕ
most_reported None = 0
most_reported (Some i) = most_words i

-- a turn makes at most one atomic write, of no more words than its instruction changes, and none if that is an exit
pub record WritesFew (t : Acted) : Type 0 where
  pub one : length t.writes ≤ 1
  pub words : AllByRecursion (λ w. w.words ≤ most_reported t.turn.ins) t.writes
  pub exit : IfSome t.turn.ins (λ i. is_exit i ≡ true → t.writes ≡ [])

-- ---- parts of a turn

-- the name that a primitive reads besides the running frame: that of the application that delegated to it, if there is
-- one
abbrev pub delegator_of : (ℕ → Option (List ℕ)) → List Held → Option (List ℕ)
delegator_of named [] = None
delegator_of named (h ∷ hs) = named h.slot

-- whether a frame of a list runs the application of a name
abbrev pub has_frame : (ℕ → Option (List ℕ)) → List ℕ → List Held → Bool
has_frame named n [] = false
has_frame named n (h ∷ hs) = bytes_eq (name_or (named h.slot)) n || has_frame named n hs

-- each frame of a list fits the bank
abbrev pub AllFitBank : BankState → (ℕ → Option (List ℕ)) → List Held → Type 0
AllFitBank s named hs = AllByRecursion (λ h. FitsBank s named h) hs

-- the end of a chain whose first frame exits
abbrev pub last_end : List ℕ → End
last_end public = cond (nat_lt 1024 (la_of public)) (end.Abend A09) end.Reply

-- the chain with one instruction less in the budget, whose running frame is at the place after its instruction
abbrev pub chain_at_next : Chained → ℕ → Chained
chain_at_next c next = record c { running = record c.running { frame = record c.running.frame { at = next } }; left = c.left - 1 }

-- the record of a turn, with the registers of a frame as they are
abbrev pub step_of_frame : Held → Option Ins → Option End → Step
step_of_frame h ins end = record { ins = ins; dt = h.frame.dt; flags = record { c = h.frame.c; z = h.frame.z }; end = end }

-- the running frame exits, by the frames that wait
abbrev pub FrameExits : Chained → Chained → Option End → List Held → Type 0
FrameExits c d result [] = (d ≡ c) × (result ≡ Some (last_end c.public))
FrameExits c d result (h ∷ hs) = (d ≡ record c { running = h; below = hs }) × (result ≡ None)

-- what follows an instruction of a settled chain, and the record of the turn: after an abend it has the registers from
-- before the instruction
abbrev pub Followed : BankState → (ℕ → Option (List ℕ)) → Chained → Chained → Ins → Step → Step → Follows → Type 0
Followed s named c d i before step (Continues next) = RunsAs s named d next × (step ≡ step_of_frame c.running (Some i) None)
Followed s named c d i before step (Ends (model.Reply body sw)) =
    (d ≡ c) × (step ≡ step_of_frame c.running (Some i) (Some end.Reply)) × (end_value c.public c.le end.Reply ≡ model.Reply body sw)
Followed s named c d i before step (Ends (model.Abended a)) = (d ≡ c) × (step ≡ record before { end = Some (end.Abend a) })

-- an instruction that was not done: the record of a turn that ends by the abend, or the `Stop`
abbrev pub step_of_halt : Step → Halt → Result Step Stop
step_of_halt before (halt.Abend a) = Ok (record before { end = Some (end.Abend a) })
step_of_halt before (halt.Stop stop) = Err stop
