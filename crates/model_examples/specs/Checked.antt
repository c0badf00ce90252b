-- The verdict on short code, computed by following all its facts, for worked rows of the definition of the stack's
-- shape. No contract rests on it.
use Rattle.std.specs.Prelude.{ℕ, zero, suc, ◌+◌, ◌-◌, Bool, true, false, cond, not, ◌&&◌, ◌||◌, nat_lt, nat_le, ◌==◌, max, List, [], ◌∷◌, ◌++◌, map, filter, flat_map, Option, Some, None, Result, Ok, Err}
use Rattle.std.specs.List.{list_any}
use Rattle.model_machine.specs.declared.instruction.Ins.{Ins}
use Rattle.model_machine.specs.declared.instruction.DecodeFault.{DecodeFault}
use Rattle.model_machine.specs.Code.{instruction_at}
use Rattle.model_stack.specs.StackRows.{height_after, writing, is_plain, is_call, is_conditional, counts, goes_on, jump_target, call_target}
use Rattle.model_stack.specs.StackShape.{Routine, Main, At, Fact, fact, FactLook, Bad, Stands, look}

-- whether two routines are equal
abbrev pub is_same_routine : Routine → Routine → Bool
is_same_routine Main Main = true
is_same_routine Main (At q) = false
is_same_routine (At p) Main = false
is_same_routine (At p) (At q) = p == q

-- whether two facts are equal
abbrev pub is_same : Fact → Fact → Bool
is_same f g = is_same_routine f.routine g.routine && (f.place == g.place) && (f.height == g.height)

-- a value that may be missing, as a list
abbrev pub to_list : {A : Type 0} → Option A → List A
to_list None = []
to_list (Some a) = a ∷ []

-- the instruction that was decoded, if there is one
abbrev pub ins_of : Result (Ins × ℕ) DecodeFault → List Ins
ins_of (Ok p) = p.0 ∷ []
ins_of (Err e) = []

-- the instruction at a place, if there is one
abbrev pub ins_at : List ℕ → ℕ → List Ins
ins_at code p = ins_of (instruction_at code p)

-- ---- facts

-- the counts of a routine's returns: the bytes of arguments that each removes, and the bytes of results that it leaves
abbrev pub counts_in : List ℕ → List Fact → Routine → List (ℕ × ℕ)
counts_in code fs r = flat_map (λ g. cond (is_same_routine g.routine r) (flat_map (λ i. to_list (counts i)) (ins_at code g.place)) []) fs

-- the facts that follow from a call: its routine, and the places after it by the counts of its returns
abbrev pub gives_call : List ℕ → List Fact → Fact → Ins → ℕ → ℕ → List Fact
gives_call code fs f i next q =
    fact (At q) q 0 ∷ (cond (is_conditional i) (fact f.routine next f.height ∷ []) []
    ++ map (λ c. fact f.routine next (f.height - c.0 + c.1)) (filter (λ c. nat_le c.0 f.height) (counts_in code fs (At q))))

-- the facts that follow from an instruction, by the target of the call if it is one
abbrev pub gives_by : List ℕ → List Fact → Fact → Ins → ℕ → Option ℕ → List Fact
gives_by code fs f i next (Some q) = gives_call code fs f i next q
gives_by code fs f i next None =
    cond (goes_on i) (fact f.routine next (height_after i f.height) ∷ []) []
    ++ flat_map (λ t. map (λ p. fact f.routine p f.height) (to_list t)) (to_list (jump_target i next))

-- the facts that follow from the instruction at a place
abbrev pub gives_seen : List ℕ → List Fact → Fact → FactLook → List Fact
gives_seen code fs f (Bad c) = []
gives_seen code fs f (Stands i next) = cond (nat_le f.height 512) (gives_by code fs f i next (call_target i)) []

-- the facts that follow from a fact
unfoldable pub gives : List ℕ → List Fact → Fact → List Fact
unfolding look
gives code fs f = gives_seen code fs f (look code f)

-- a list of facts with one fact more, unless the fact is among them
abbrev pub with_fact : Bool → List Fact → Fact → List Fact
with_fact true fs g = fs
with_fact false fs g = fs ++ g ∷ []

-- a list of facts with some more, each unless it is among them
abbrev pub with_facts : List Fact → List Fact → List Fact
with_facts fs [] = fs
with_facts fs (g ∷ gs) = with_facts (with_fact (list_any (is_same g) fs) fs g) gs

-- the facts that `n` rounds of all rules find
unfoldable pub facts_in : ℕ → List ℕ → List Fact → List Fact
unfolding gives
facts_in zero code fs = fs
facts_in (suc n) code fs = facts_in n code (with_facts fs (flat_map (gives code fs) fs))

-- ---- causes

-- the facts that are CALLs, with their targets
abbrev pub calls_in : List ℕ → List Fact → List (Fact × ℕ)
calls_in code fs = flat_map (λ f. map (λ q. (f, q)) (flat_map (λ i. to_list (call_target i)) (ins_at code f.place))) fs

-- whether calls lead from one routine to another, at most `n` deep
abbrev pub enters : ℕ → List (Fact × ℕ) → Routine → Routine → Bool
enters zero cs r s = is_same_routine r s
enters (suc n) cs r s = is_same_routine r s || list_any (λ c. is_same_routine (c.0).routine r && enters n cs (At c.1) s) cs

-- the greatest of some numbers
abbrev pub greatest : List ℕ → ℕ
greatest [] = 0
greatest (n ∷ ns) = max n (greatest ns)

-- the base of a routine, for calls at most `n` deep
abbrev pub base_of : ℕ → List (Fact × ℕ) → Routine → ℕ
base_of zero cs r = 0
base_of (suc n) cs r = greatest (map (λ c. cond (is_same_routine (At c.1) r) (base_of n cs (c.0).routine + (c.0).height + 4) 0) cs)

-- whether there is no instruction at the place
abbrev pub is_bad : FactLook → Bool
is_bad (Bad c) = true
is_bad (Stands i next) = false

-- whether some fact is a call
abbrev pub is_some_call : List ℕ → List Fact → Bool
is_some_call code fs = list_any (λ f. list_any is_call (ins_at code f.place)) fs

-- whether a fact breaks a rule: no instruction at its place, Returns, Under, Recursive, Heights, Wild or Deep
abbrev pub breaks : List ℕ → ℕ → List Fact → List (Fact × ℕ) → Fact → Bool
unfolding look
breaks code session fs cs f =
    is_bad (look code f)
    || list_any (λ c. list_any (λ d. not ((c.0 == d.0) && (c.1 == d.1))) (counts_in code fs f.routine)) (flat_map (λ i. to_list (counts i)) (ins_at code f.place))
    || list_any (λ q. list_any (λ c. nat_lt f.height c.0) (counts_in code fs (At q)) || enters 8 cs (At q) f.routine) (flat_map (λ i. to_list (call_target i)) (ins_at code f.place))
    || list_any (λ g. (g.place == f.place) && not (is_same g f)) fs
    || (is_some_call code fs && list_any (λ i. not (is_plain session f.height (writing i))) (ins_at code f.place))
    || nat_lt 512 (session + base_of 8 cs f.routine + f.height)

-- the greatest depth of the stack, unless some fact breaks a rule
abbrev pub verdict_of : List ℕ → ℕ → List Fact → List (Fact × ℕ) → Option ℕ
verdict_of code session fs cs =
    cond (list_any (breaks code session fs cs) fs) None (Some (greatest (map (λ f. base_of 8 cs f.routine + f.height) fs)))

-- the greatest depth of the stack of code that is accepted, if 60 rounds find all facts
unfoldable pub verdict : List ℕ → ℕ → Option ℕ
unfolding facts_in breaks
verdict code session =
    let fs = facts_in 60 code (fact Main 0 0 ∷ []) in
    verdict_of code session fs (calls_in code fs)
