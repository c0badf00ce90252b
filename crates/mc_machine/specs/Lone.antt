-- An application that no frame waits for: its chain, what its turns leave, and the end of a run.
use Rattle.std.specs.Prelude.{◌≡◌, ℕ, ◌+◌, ◌-◌, ◌≤◌, false, List, [], option_map, Option, Some, None, Result, Ok, Err}
use Rattle.law_machine.specs.model_device.specs.declared.device.Stop.{Stop}
use Rattle.law_machine.specs.model_machine.specs.declared.instruction.Ins.{Ins}
use Rattle.law_machine.specs.model_device.specs.Orders.{InOrder}
use Rattle.law_machine.specs.model_device.specs.Bytes.{lookup}
use Rattle.law_machine.specs.model_machine.specs.Chain.{Chain, Acted, Continues, Ran, chain_after_call}
use Rattle.law_machine.specs.model_machine.specs.Chain as model
use Rattle.law_machine.specs.model_machine.specs.Primitives.{Around}
use Rattle.mc_segs.specs.HeldFrames.{Held}
use Rattle.mc_segs.specs.declared.ends.Halt.{Halt}
use Rattle.mc_segs.specs.declared.ends.Halt.TheVariants as halt
use Rattle.mc_segs.specs.declared.ends.Next.{Next}
use Rattle.mc_segs.specs.declared.ends.Next.TheVariants as go
use Rattle.mc_segs.specs.Ends.{Scene, RowActs}
use Rattle.mc_machine.specs.Chains.{Chained, RunsAs, ChainWrote}
use Rattle.mc_machine.specs.Turns.{TurnActs, EndFits, end_value, last_end, outcome_value}
use Rattle.mc_machine.specs.declared.outcome.End.{End}
use Rattle.mc_machine.specs.declared.outcome.End.TheVariants as end
use Rattle.mc_machine.specs.declared.outcome.Outcome.{Outcome}
use Rattle.mc_machine.specs.declared.lone.Lone.{Lone}
use Rattle.mc_machine.specs.declared.lone.Lone.TheVariants.{Goes, Ends, Delegates}
use Rattle.mc_bank.specs.declared.bank.Bank.{Ghosts}

-- the chain of a frame that no frame waits for, with the given number of instructions left in the budget
abbrev pub lone_chain : Held → List ℕ → ℕ → ℕ → ℕ → Chained
lone_chain h public case le left = record { running = h; below = []; public = public; case = case; le = le; left = left }

-- a turn without a `Stop`, and its end
abbrev pub EndDone : {B : Type 0} → Ghosts B → B → B → Chained → Chained → Chain → Acted → Option End → Type 0
EndDone ghosts b e c d ch t end = TurnActs ghosts b e c d ch t × (t.turn.end ≡ option_map (end_value d.public d.le) end)

-- a turn whose instruction delegates to a name: the chain as the instruction leaves it, in which the name is called
-- next
pub record Delegated {B : Type 0} (ghosts : Ghosts B) (b e : B) (c d : Chained) (t : Acted) (name : List ℕ) : Type 0 where
  pub chain : Chain
  pub runs : RunsAs (ghosts.state e) (ghosts.named e) d chain
  pub writes : InOrder (ChainWrote ghosts) b t.writes (Ok tt) e
  pub going : (ghosts.state e).stopped ≡ false
  pub left : d.left + t.count ≡ c.left
  pub follows : t.follows ≡ Continues (chain_after_call chain name (lookup chain.map name))

-- a turn of a frame that no frame waits for, by its result and the name that it calls; `n` is the budget that its chain
-- has left
abbrev pub LoneDone : {B : Type 0} → Ghosts B → B → B → Chained → (ℕ → Chained) → Chain → Acted → Result Lone Stop → Option (List ℕ) → Type 0
LoneDone ghosts b e c d ch t (Ok Goes) callee = (n : ℕ) × EndDone ghosts b e c (d n) ch t None
LoneDone ghosts b e c d ch t (Ok (Ends end)) callee = (n : ℕ) × EndDone ghosts b e c (d n) ch t (Some end)
LoneDone ghosts b e c d ch t (Ok Delegates) None = ⊥
LoneDone ghosts b e c d ch t (Ok Delegates) (Some name) = Delegated ghosts b e c (d (c.left - 1)) t name
LoneDone ghosts b e c d ch t (Err stop) callee = InOrder (ChainWrote ghosts) b t.writes (Err stop) e

-- a reply fits, if the turn ends with one
abbrev pub LoneFits : List ℕ → Result Lone Stop → Type 0
LoneFits public (Ok Goes) = Unit {0}
LoneFits public (Ok (Ends end)) = EndFits public end
LoneFits public (Ok Delegates) = Unit {0}
LoneFits public (Err stop) = Unit {0}

-- the application goes on after a turn
abbrev pub GoesOn : Result Lone Stop → Type 0
GoesOn result = result ≡ Ok Goes

-- the result of a turn whose instruction was done, with the given public bytes
abbrev pub lone_next_of : Next → List ℕ → Lone
lone_next_of go.Go public = Goes
lone_next_of go.Exit public = Ends (last_end public)
lone_next_of (go.Delegate name) public = Delegates

-- the result of a turn whose instruction was not done
abbrev pub lone_halt_of : Halt → Result Lone Stop
lone_halt_of (halt.Abend a) = Ok (Ends (end.Abend a))
lone_halt_of (halt.Stop stop) = Err stop

-- the result of a turn by that of its instruction, with the given public bytes
abbrev pub lone_of : Result Next Halt → List ℕ → Result Lone Stop
lone_of (Ok next) public = Ok (lone_next_of next public)
lone_of (Err halt) public = lone_halt_of halt

-- the name that an instruction calls, if it delegates, is in the place for it
abbrev pub NameIsCalled : Result Next Halt → Option (List ℕ) → Type 0
NameIsCalled (Ok go.Go) callee = Unit {0}
NameIsCalled (Ok go.Exit) callee = Unit {0}
NameIsCalled (Ok (go.Delegate name)) callee = callee ≡ Some name
NameIsCalled (Err halt) callee = Unit {0}

-- an instruction of a frame that no frame waits for, by what comes after it and the name that it calls
pub record LoneActs {B : Type 0} (ghosts : Ghosts B) (s : Scene B) (i : Ins) (x : Around) (result : Result Lone Stop) (callee : Option (List ℕ)) : Type 0 where
  pub done : Result Next Halt
  pub acts : RowActs ghosts s i x done
  pub value : result ≡ lone_of done s.public_after
  pub called : NameIsCalled done callee

-- ---- runs

-- the end of a run: all its writes were done, `steps` counts its steps as well, and it left the given session bytes
pub record Finished {B : Type 0} (ghosts : Ghosts B) (start : B) (whole : Ran) (ticks : ℕ) (end : B) (bytes : List ℕ) (reported : model.Outcome) (steps : ℕ) : Type 0 where
  pub writes : InOrder (ChainWrote ghosts) start whole.writes (Ok tt) end
  pub going : (ghosts.state end).stopped ≡ false
  pub count : steps ≡ ticks + whole.count
  pub session : bytes ≡ whole.session
  pub outcome : reported ≡ whole.outcome

-- a run that a `Stop` ended: it counted no more steps than the whole run, and left the session bytes as they were
pub record HaltedRun {B : Type 0} (ghosts : Ghosts B) (start : B) (whole : Ran) (ticks : ℕ) (end : B) (bytes left : List ℕ) (stop : Stop) (steps : ℕ) : Type 0 where
  pub writes : InOrder (ChainWrote ghosts) start whole.writes (Err stop) end
  pub count : steps ≤ ticks + whole.count
  pub session : left ≡ bytes

-- a run by its result: the bank, the session bytes and the number of steps before it and after it
abbrev pub RanDone : {B : Type 0} → Ghosts B → B → B → List ℕ → List ℕ → ℕ → ℕ → Ran → Result Outcome Stop → Type 0
RanDone ghosts b e bytes left ticks steps whole (Ok outcome) = Finished ghosts b whole ticks e left (outcome_value outcome) steps
RanDone ghosts b e bytes left ticks steps whole (Err stop) = HaltedRun ghosts b whole ticks e bytes left stop steps
