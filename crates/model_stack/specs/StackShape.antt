-- The shape of the stack at each place of code: the facts, the causes by which code is refused, and the deepest stack.
use Rattle.std.specs.Prelude.{◌≡◌, ◌≢◌, ◌⊎◌, ℕ, ◌+◌, ◌-◌, ◌<◌, ◌≤◌, Bool, true, false, cond, not, ◌&&◌, nat_lt, List, [], ◌∷◌, length, Some, None, is_some, Result, Ok, Err}
use Rattle.model_text.specs.declared.checker.CheckCause.{CheckCause}
use Rattle.model_text.specs.declared.checker.CheckCause.TheVariants.{Undefined, Past, Indirect, Returns, Under, Target, Recursive, Heights, Wild, Deep}
use Rattle.model_text.specs.model_machine.specs.declared.instruction.DecodeFault.{DecodeFault}
use Rattle.model_text.specs.model_machine.specs.declared.instruction.DecodeFault.TheVariants as fault
use Rattle.model_text.specs.model_machine.specs.declared.instruction.Ins.{Ins}
use Rattle.model_text.specs.model_machine.specs.Code.{instruction_at}
use Rattle.model_stack.specs.StackRows.{need, height_after, writing, is_plain, is_indirect, is_call, is_conditional, counts, goes_on, jump_target, call_target, places_inside}

-- ---- facts

-- the main code, and the routine that begins at a place
pub data Routine : Type 0 where
  Main : Routine
  At : (place : ℕ) → Routine

-- a fact: in the routine the place is reached with DT `height` above LB
pub record Fact : Type 0 where
  pub routine : Routine
  pub place : ℕ
  pub height : ℕ

-- a fact of a routine, a place and a height
abbrev pub fact : Routine → ℕ → ℕ → Fact
fact r p h = record { routine = r; place = p; height = h }

-- whether a routine is the main code
abbrev pub is_main : Routine → Bool
is_main Main = true
is_main (At p) = false

-- what is seen of a fact alone: the first cause that holds there, or its instruction and the place after it
pub data FactLook : Type 0 where
  Bad : (cause : CheckCause) → FactLook
  Stands : (ins : Ins) (next : ℕ) → FactLook

-- the first rule that is seen to be broken, else the look
abbrev pub first_bad : List (CheckCause × Bool) → FactLook → FactLook
first_bad [] look = look
first_bad (c ∷ cs) look = cond c.1 (Bad c.0) (first_bad cs look)

-- what a fact alone shows
abbrev pub fact_look : ℕ → Fact → Result (Ins × ℕ) DecodeFault → FactLook
fact_look len f (Err fault.Undefined) = Bad Undefined
fact_look len f (Err fault.Past) = Bad Past
fact_look len f (Ok p) =
    first_bad (
    (Indirect, is_indirect p.0)
    ∷ (Returns, is_main f.routine && is_some (counts p.0))
    ∷ (Under, nat_lt f.height (need p.0))
    ∷ (Target, not (places_inside len p.0 p.1))
    ∷ []
    ) (Stands p.0 p.1)

-- what is seen of a fact of this code
unfoldable pub look : List ℕ → Fact → FactLook
look code f = fact_look (length code) f (instruction_at code f.place)

-- a fact whose instruction leads to further facts
pub record Gives (code : List ℕ) (f : Fact) (i : Ins) (next : ℕ) : Type 0 where
  pub stands : look code f ≡ Stands i next
  pub height : f.height ≤ 512

-- the instruction at a fact's place, whatever else holds there
abbrev pub IsAt : List ℕ → ℕ → Ins → Type 0
IsAt code p i = (next : ℕ) × (instruction_at code p ≡ Ok (i, next))

-- The facts, the least set under these rules: the code begins in main; an instruction that is no CALL goes on with its
-- pops and pushes; it goes to its target with the same height; a CALL begins its routine; a CALL under a condition may
-- go on; and a CALL of a routine that returns with the counts i and o goes on with i bytes less and o more.
pub data Reached (code : List ℕ) : Fact → Type 0 where
  begins : Reached code (fact Main 0 0)
  goes : {r : Routine} {p h : ℕ} (i : Ins) (next : ℕ) → Reached code (fact r p h) → Gives code (fact r p h) i next → call_target i ≡ None → goes_on i ≡ true → Reached code (fact r next (height_after i h))
  jumps : {r : Routine} {p h : ℕ} (i : Ins) (next to : ℕ) → Reached code (fact r p h) → Gives code (fact r p h) i next → jump_target i next ≡ Some (Some to) → Reached code (fact r to h)
  calls : {r : Routine} {p h : ℕ} (i : Ins) (next q : ℕ) → Reached code (fact r p h) → Gives code (fact r p h) i next → call_target i ≡ Some q → Reached code (fact (At q) q 0)
  passes : {r : Routine} {p h : ℕ} (i : Ins) (next q : ℕ) → Reached code (fact r p h) → Gives code (fact r p h) i next → call_target i ≡ Some q → is_conditional i ≡ true → Reached code (fact r next h)
  returns : {r : Routine} {p h at t : ℕ} (i : Ins) (next q : ℕ) (back : Ins) (less more : ℕ) → Reached code (fact r p h) → Gives code (fact r p h) i next → call_target i ≡ Some q → Reached code (fact (At q) at t) → IsAt code at back → counts back ≡ Some (less, more) → less ≤ h → Reached code (fact r next (h - less + more))

-- a routine returns with these counts somewhere
pub record ReturnsWith (code : List ℕ) (r : Routine) (i o : ℕ) : Type 0 where
  pub place : ℕ
  pub height : ℕ
  pub reached : Reached code (fact r place height)
  pub back : Ins
  pub stands : IsAt code place back
  pub counts : counts back ≡ Some (i, o)

-- a routine has a CALL of the routine q at this height
pub record Calls (code : List ℕ) (r : Routine) (h q : ℕ) : Type 0 where
  pub place : ℕ
  pub reached : Reached code (fact r place h)
  pub call : Ins
  pub stands : IsAt code place call
  pub target : call_target call ≡ Some q

-- a routine reaches another one by calls, or is it
pub data Enters (code : List ℕ) : Routine → Routine → Type 0 where
  same : {r : Routine} → Enters code r r
  further : {r s : Routine} {h q : ℕ} → Calls code r h q → Enters code (At q) s → Enters code r s

-- LB of a routine may lie this far above the floor, by the calls from main to it
pub data Depth (code : List ℕ) : Routine → ℕ → Type 0 where
  main : Depth code Main 0
  called : {r : Routine} {b h q : ℕ} → Depth code r b → Calls code r h q → Depth code (At q) (b + h + 4)

-- the base of a routine: the greatest of these
pub record IsBase (code : List ℕ) (r : Routine) (b : ℕ) : Type 0 where
  pub reached : Depth code r b
  pub greatest : (d : ℕ) → Depth code r d → d ≤ b

-- ---- causes

-- a return whose counts differ from another of its routine
pub record Differs (code : List ℕ) (f : Fact) : Type 0 where
  pub back : Ins
  pub stands : IsAt code f.place back
  pub less : ℕ
  pub more : ℕ
  pub counts : counts back ≡ Some (less, more)
  pub other_less : ℕ
  pub other_more : ℕ
  pub other : ReturnsWith code f.routine other_less other_more
  pub differ : (less ≢ other_less) ⊎ (more ≢ other_more)

-- a CALL whose routine takes more bytes than there are
pub record TakesMore (code : List ℕ) (f : Fact) : Type 0 where
  pub call : Ins
  pub stands : IsAt code f.place call
  pub to : ℕ
  pub target : call_target call ≡ Some to
  pub less : ℕ
  pub more : ℕ
  pub counts : ReturnsWith code (At to) less more
  pub fewer : f.height < less

-- a CALL by which its routine reaches itself
pub record ReachesItself (code : List ℕ) (f : Fact) : Type 0 where
  pub call : Ins
  pub stands : IsAt code f.place call
  pub to : ℕ
  pub target : call_target call ≡ Some to
  pub enters : Enters code (At to) f.routine

-- another fact has the same place
pub record SharesPlace (code : List ℕ) (f : Fact) : Type 0 where
  pub other : Fact
  pub reached : Reached code other
  pub place : other.place ≡ f.place
  pub differ : other ≢ f

-- a write at an address that is not plain, if some fact is a CALL
pub record WritesWild (code : List ℕ) (session : ℕ) (f : Fact) : Type 0 where
  pub caller : Fact
  pub reached : Reached code caller
  pub call : Ins
  pub calls : IsAt code caller.place call
  pub is_call : is_call call ≡ true
  pub writer : Ins
  pub stands : IsAt code f.place writer
  pub wild : is_plain session f.height (writing writer) ≡ false

-- no routine reaches itself
abbrev pub NoRecursion : List ℕ → Type 0
NoRecursion code = (f : Fact) → Reached code f → ReachesItself code f → ⊥

-- the stack would pass its 512 bytes; bases are there only without recursion
pub record TooDeep (code : List ℕ) (session : ℕ) (f : Fact) : Type 0 where
  pub sound : NoRecursion code
  pub base : ℕ
  pub is_base : IsBase code f.routine base
  pub deep : 512 < session + base + f.height

-- there is an instruction at a fact, and something holds of it and the place after it
abbrev pub HoldsAtFact : List ℕ → Fact → (Ins → ℕ → Type 0) → Type 0
HoldsAtFact code f holds = (i : Ins) × (next : ℕ) × (instruction_at code f.place ≡ Ok (i, next)) × holds i next

-- the cause holds for a fact
abbrev pub Breaks : List ℕ → ℕ → CheckCause → Fact → Type 0
Breaks code session Undefined f = instruction_at code f.place ≡ Err fault.Undefined
Breaks code session Past f = instruction_at code f.place ≡ Err fault.Past
Breaks code session Indirect f = HoldsAtFact code f (λ i next. is_indirect i ≡ true)
Breaks code session Returns f = HoldsAtFact code f (λ i next. (is_main f.routine && is_some (counts i)) ≡ true) ⊎ Differs code f
Breaks code session Under f = HoldsAtFact code f (λ i next. f.height < need i) ⊎ TakesMore code f
Breaks code session Target f = HoldsAtFact code f (λ i next. places_inside (length code) i next ≡ false)
Breaks code session Recursive f = ReachesItself code f
Breaks code session Heights f = SharesPlace code f
Breaks code session Wild f = WritesWild code session f
Breaks code session Deep f = TooDeep code session f

-- ---- verdicts

-- the deepest stack: the greatest sum of base and height
pub record IsDeepest (code : List ℕ) (most : ℕ) : Type 0 where
  pub some : (f : Fact) × (b : ℕ) × Reached code f × IsBase code f.routine b × (most ≡ b + f.height)
  pub greatest : (f : Fact) (b : ℕ) → Reached code f → IsBase code f.routine b → b + f.height ≤ most

-- no fact breaks a rule
pub record Accepts (code : List ℕ) (session most : ℕ) : Type 0 where
  pub sound : (f : Fact) (cause : CheckCause) → Reached code f → Breaks code session cause f → ⊥
  pub deepest : IsDeepest code most

-- a fact breaks a rule; if a cause is seen from the fact alone, the first one is named
pub record Refuses (code : List ℕ) (session place : ℕ) (cause : CheckCause) : Type 0 where
  pub fact : Fact
  pub reached : Reached code fact
  pub at : fact.place ≡ place
  pub breaks : Breaks code session cause fact
  pub first : (alone : CheckCause) → look code fact ≡ Bad alone → cause ≡ alone
