-- The list of calls of code: what follows from its table of facts, and the depths by the list.
use Rattle.std.proofs.Common.{◌≡◌, ℕ, ◌+◌, ◌<◌, ◌≤◌, Bool, true, not, List, [], ◌∷◌, length, Option, Some, None, Result, Ok, Err, refl, sym, ap, subst, ◌∙◌, arith}
use Rattle.std.specs.Prelude.{◌&&◌, ◌||◌, nat_lt, is_some}
use Rattle.std.proofs.lemmas.Bool.{ltb-true, and_parts}
use Rattle.law_family.specs.model_machine.specs.declared.instruction.Ins.{Ins}
use Rattle.law_family.specs.model_machine.specs.declared.instruction.DecodeFault.{DecodeFault}
use Rattle.law_family.specs.model_machine.specs.declared.instruction.DecodeFault.TheVariants as fault
use Rattle.law_family.specs.model_text.specs.declared.checker.CheckCause.TheVariants.{Indirect, Returns, Under, Target}
use Rattle.law_family.specs.model_machine.specs.Code.{instruction_at}
use Rattle.model_stack.specs.StackRows.{need, is_indirect, counts, goes_on, jump_target, call_target, target_inside, call_inside, places_inside}
use Rattle.model_stack.specs.StackShape.{Routine, Main, At, Fact, fact, is_main, FactLook, Stands, first_bad, fact_look, look, Reached, IsAt, Calls, IsBase, NoRecursion, ReachesItself}
use Rattle.model_stack.specs.StackShape as shape
use Rattle.mc_check.specs.Table.{routine_of, IsGoodFact}
use Rattle.mc_check.specs.declared.calls.Call.{Call}
use Rattle.mc_check.specs.CallList.{ListsCall, IsCall, AreCalls, DepthIn, EntersIn, IsBaseIn}
use Rattle.mc_check.specs.CallList as list

-- ---- what a good fact shows

-- the instruction that was decoded at a place, and the places that it may go to
record DecodesInside (len : ℕ) (r : Result (Ins × ℕ) DecodeFault) (i : Ins) (next : ℕ) : Type 0 where
  decoded : r ≡ Ok (i, next)
  inside : places_inside len i next ≡ true

same_parts : (a i : Ins) (m n : ℕ) → ◌≡◌ {A = FactLook} (Stands a m) (Stands i n) → (a ≡ i) × (m ≡ n)
same_parts a i m n e = (cc, cc)

none_bad : (a b c d : Bool) (x i : Ins) (m n : ℕ) → first_bad ((Indirect, a) ∷ (Returns, b) ∷ (Under, c) ∷ (Target, not d) ∷ []) (Stands x m) ≡ Stands i n → (d ≡ true) × (◌≡◌ {A = FactLook} (Stands x m) (Stands i n))
none_bad a b c d x i m n e = grind arith

seen_shows : (len : ℕ) (f : Fact) (r : Result (Ins × ℕ) DecodeFault) (i : Ins) (next : ℕ) → fact_look len f r ≡ Stands i next → DecodesInside len r i next
seen_shows len f (Err fault.Undefined) i next e = cc
seen_shows len f (Err fault.Past) i next e = cc
seen_shows len f (Ok (x, m)) i next e =
    let both = none_bad (is_indirect x) (is_main f.routine && is_some (counts x)) (nat_lt f.height (need x)) (places_inside len x m) x i m next e in
    let parts = same_parts x i m next both.1 in
    record {
      decoded = ap (λ (y : Ins). Ok (y, m)) parts.0 ∙ ap (λ (n : ℕ). Ok (i, n)) parts.1;
      inside = sym (ap (λ (y : Ins). places_inside len y m) parts.0 ∙ ap (λ (n : ℕ). places_inside len i n) parts.1) ∙ both.0;
    }

-- a fact whose instruction breaks no rule by itself
shows_at : (code : List ℕ) (f : Fact) (i : Ins) (next : ℕ) → look code f ≡ Stands i next → DecodesInside (length code) (instruction_at code f.place) i next
unfolding look
shows_at code f i next e = seen_shows (length code) f (instruction_at code f.place) i next e

called_inside : (len : ℕ) (t : Option ℕ) (q : ℕ) → t ≡ Some q → call_inside len t ≡ true → q < len
called_inside len None q is inside = cc
called_inside len (Some p) q is inside = let same : p ≡ q = cc in subst (λ (n : ℕ). n < len) same (ltb-true p len inside)

pub same_ins : (r : Result (Ins × ℕ) DecodeFault) (a i : Ins) (m n : ℕ) → r ≡ Ok (a, m) → r ≡ Ok (i, n) → a ≡ i
same_ins r a i m n e h = let same : ◌≡◌ {A = Ins × ℕ} (a, m) (i, n) = cc in ap (λ (p : Ins × ℕ). p.0) same

-- a good CALL calls a place of the code
pub target_is_inside : (code : List ℕ) (f : Fact) (i : Ins) (q : ℕ) → IsGoodFact code f → IsAt code f.place i → call_target i ≡ Some q → q < length code
target_is_inside code f i q good at target =
    let shows = shows_at code f good.0 good.1 good.2 in
    let same = same_ins (instruction_at code f.place) good.0 i good.1 at.0 shows.decoded at.1 in
    let inside = and_parts ((not (goes_on good.0) || nat_lt good.1 (length code)) && target_inside (length code) (jump_target good.0 good.1)) (call_inside (length code) (call_target good.0)) shows.inside in
    called_inside (length code) (call_target good.0) q (ap call_target same ∙ target) inside.1

-- a routine that is reached is called
pub called_by : {code : List ℕ} {f : Fact} → Reached code f → (q : ℕ) → f.routine ≡ At q → (r : Routine) × (h : ℕ) × Calls code r h q
called_by shape.begins q e = cc
called_by (shape.goes i next from gives plain on) q e = called_by from q e
called_by (shape.jumps i next to from gives target) q e = called_by from q e
called_by {code} (shape.calls {r} {p} {h} i next q from gives target) t e =
    let same : q ≡ t = cc in
    let shows = shows_at code (fact r p h) i next gives.stands in
    (r, h, record { place = p; reached = from; call = i; stands = (next, shows.decoded); target = target ∙ ap Some same })
called_by (shape.passes i next q from gives target may) t e = called_by from t e
called_by (shape.returns i next q back less more from gives target other at has fits) t e = called_by from t e

-- ---- the list against the code

-- a listed call is one of the code
calls_of : (code : List ℕ) (c : Call) (r : Routine) (h q : ℕ) → IsCall code c → routine_of c.caller ≡ r → c.height ≡ h → c.target ≡ q → Calls code r h q
calls_of code c r h q is same_caller same_height same_target = grind arith

pub listed_calls : (code : List ℕ) (calls : List Call) → AreCalls code calls → (r : Routine) (h q : ℕ) → ListsCall calls r h q → Calls code r h q
listed_calls code calls are r h q has = calls_of code has.call r h q (are.each has.at has.call has.there) has.caller has.height has.target

-- depths and ways by the list are those of the code
pub depth_of : {code : List ℕ} {calls : List Call} {r : Routine} {d : ℕ} → AreCalls code calls → DepthIn calls r d → shape.Depth code r d
depth_of are list.main = shape.main
depth_of {code} {calls} are (list.called {r} {b} {h} {q} deep has) = shape.called (depth_of are deep) (listed_calls code calls are r h q has)

pub depth_in : {code : List ℕ} {calls : List Call} {r : Routine} {d : ℕ} → AreCalls code calls → shape.Depth code r d → DepthIn calls r d
depth_in are shape.main = list.main
depth_in are (shape.called {r} {b} {h} {q} deep by) = list.called (depth_in are deep) (are.all r h q by)

pub enters_of : {code : List ℕ} {calls : List Call} {r s : Routine} → AreCalls code calls → EntersIn calls r s → shape.Enters code r s
enters_of are list.same = shape.same
enters_of {code} {calls} are (list.further {r} {s} {h} {q} has way) = shape.further (listed_calls code calls are r h q has) (enters_of are way)

-- a base by the list is one of the code
pub is_base : (code : List ℕ) (calls : List Call) (q b : ℕ) → AreCalls code calls → IsBaseIn calls q b → IsBase code (At q) b
is_base code calls q b are base = record { reached = depth_of are base.reached; greatest = λ d deep. base.greatest d (depth_in are deep) }

-- ---- recursion

-- main is no target
no_way_to_main : {code : List ℕ} {r s : Routine} → shape.Enters code r s → (q : ℕ) → r ≡ At q → s ≡ Main → ⊥
no_way_to_main shape.same q from to = absurd (cc)
no_way_to_main (shape.further {r} {s} {h} {q = t} by way) q from to = no_way_to_main way t refl to

-- along calls depths grow
deeper_on : {code : List ℕ} {r s : Routine} → shape.Enters code r s → (d : ℕ) → shape.Depth code r d → (e : ℕ) × shape.Depth code s e × (d ≤ e)
deeper_on shape.same d deep = (d, deep, omega arith)
deeper_on (shape.further {r} {s} {h} {q = t} by way) d deep =
    let on = deeper_on way (d + h + 4) (shape.called deep by) in
    (on.0, on.1, omega (arith, on.2))

not_itself : (code : List ℕ) → ((f : Fact) (q : ℕ) → Reached code f → f.routine ≡ At q → (b : ℕ) × IsBase code (At q) b) → (f : Fact) (r : Routine) → Reached code f → f.routine ≡ r → ReachesItself code f → ⊥
not_itself code bases f Main reached is itself = no_way_to_main itself.enters itself.to refl is
not_itself code bases f (At q) reached is itself =
    let base = bases f q reached is in
    let deep = subst (λ (r : Routine). shape.Depth code r base.0) (sym is) base.1.reached in
    let by : Calls code f.routine f.height itself.to = record { place = f.place; reached = reached; call = itself.call; stands = itself.stands; target = itself.target } in
    let on = deeper_on itself.enters (base.0 + f.height + 4) (shape.called deep by) in
    let back = base.1.greatest on.0 (subst (λ (r : Routine). shape.Depth code r on.0) is on.1) in
    absurd (omega (arith, on.2, back))

-- if each routine that is reached has a base, none reaches itself
pub no_recursion : (code : List ℕ) → ((f : Fact) (q : ℕ) → Reached code f → f.routine ≡ At q → (b : ℕ) × IsBase code (At q) b) → NoRecursion code
no_recursion code bases f reached itself = not_itself code bases f f.routine reached refl itself
