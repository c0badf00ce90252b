-- The look of a fact: why a bad one is refused, and what holds of a good one.
use Rattle.std.proofs.Common.{arith, ◌≡◌, ℕ, Bool, true, false, cond, not, ◌&&◌, nat_lt, List, length, is_some, Result, Ok, Err, refl, sym, ap, ◌∙◌, subst, inl, ltb-true}
use Rattle.std.proofs.lemmas.Bool.{not-true, not-false}
use Rattle.law_family.specs.model_text.specs.declared.checker.CheckCause.{CheckCause}
use Rattle.law_family.specs.model_text.specs.declared.checker.CheckCause.TheVariants.{Undefined, Past, Indirect, Returns, Under, Target}
use Rattle.law_family.specs.model_machine.specs.declared.instruction.DecodeFault.{DecodeFault}
use Rattle.law_family.specs.model_machine.specs.declared.instruction.DecodeFault.TheVariants as fault
use Rattle.law_family.specs.model_machine.specs.declared.instruction.Ins.{Ins}
use Rattle.law_family.specs.model_machine.specs.Code.{instruction_at}
use Rattle.model_stack.specs.StackRows.{need, is_indirect, counts, places_inside}
use Rattle.model_stack.specs.StackShape.{Fact, FactLook, Bad, Stands, is_main, fact_look, look, Reached, IsAt, Breaks, Refuses}
use Rattle.mc_check.specs.Table.{IsGoodFact}

-- ---- the chain of tests

-- the tests, one after another, and the look if none of them holds
abbrev chain : Bool → Bool → Bool → Bool → FactLook → FactLook
chain a b c d look = cond a (Bad Indirect) (cond b (Bad Returns) (cond c (Bad Under) (cond d (Bad Target) look)))

-- none of the tests holds
record NoTestHolds (a b c d : Bool) (i : Ins) (next : ℕ) (l : FactLook) : Type 0 where
  indirect : a ≡ false
  returns : b ≡ false
  under : c ≡ false
  target : d ≡ false
  stands : l ≡ Stands i next

chain_stands : (a b c d : Bool) (l : FactLook) (i : Ins) (next : ℕ) → chain a b c d l ≡ Stands i next → NoTestHolds a b c d i next l
chain_stands true b c d l i next h = absurd (cc h)
chain_stands false true c d l i next h = absurd (cc h)
chain_stands false false true d l i next h = absurd (cc h)
chain_stands false false false true l i next h = absurd (cc h)
chain_stands false false false false l i next h = record { indirect = refl; returns = refl; under = refl; target = refl; stands = h }

bad_same : (a b : CheckCause) → Bad a ≡ Bad b → a ≡ b
bad_same a b h = cc

-- a cause is that of one of the tests, which holds
data FirstTestNamed (a b c d : Bool) : CheckCause → Type 0 where
  indirect : a ≡ true → FirstTestNamed a b c d Indirect
  returns : b ≡ true → FirstTestNamed a b c d Returns
  under : c ≡ true → FirstTestNamed a b c d Under
  target : d ≡ true → FirstTestNamed a b c d Target

chain_bad : (a b c d : Bool) (i : Ins) (next : ℕ) (cause : CheckCause) → chain a b c d (Stands i next) ≡ Bad cause → FirstTestNamed a b c d cause
chain_bad a b c d i next cause h = grind (arith, bad_same, indirect, returns, under, target)

-- ---- a good fact

-- the rules that the instruction of a good fact keeps
pub record KeepsRules (code : List ℕ) (f : Fact) (i : Ins) (next : ℕ) : Type 0 where
  pub there : instruction_at code f.place ≡ Ok (i, next)
  pub direct : is_indirect i ≡ false
  pub stays : (is_main f.routine && is_some (counts i)) ≡ false
  pub enough : nat_lt f.height (need i) ≡ false
  pub inside : places_inside (length code) i next ≡ true

fine_from : (code : List ℕ) (f : Fact) (d : Result (Ins × ℕ) DecodeFault) (i : Ins) (next : ℕ) → instruction_at code f.place ≡ d → fact_look (length code) f d ≡ Stands i next → KeepsRules code f i next
fine_from code f (Err fault.Undefined) i next e h = absurd (cc h)
fine_from code f (Err fault.Past) i next e h = absurd (cc h)
fine_from code f (Ok p) i next e h =
    let passed = chain_stands (is_indirect p.0) (is_main f.routine && is_some (counts p.0)) (nat_lt f.height (need p.0)) (not (places_inside (length code) p.0 p.1)) (Stands p.0 p.1) i next h in
    let same : p.0 ≡ i = cc passed.stands in
    let next_same : p.1 ≡ next = cc passed.stands in
    let fine : KeepsRules code f p.0 p.1 = record { there = e; direct = passed.indirect; stays = passed.returns; enough = passed.under; inside = not-false (places_inside (length code) p.0 p.1) passed.target } in
    subst (λ (n : ℕ). KeepsRules code f i n) next_same (subst (λ (x : Ins). KeepsRules code f x p.1) same fine)

pub fine : (code : List ℕ) (f : Fact) (i : Ins) (next : ℕ) → look code f ≡ Stands i next → KeepsRules code f i next
unfolding look
fine code f i next h = fine_from code f (instruction_at code f.place) i next refl h

pub is_at : (code : List ℕ) (f : Fact) (i : Ins) (next : ℕ) → look code f ≡ Stands i next → IsAt code f.place i
is_at code f i next h = (next, (fine code f i next h).there)

ok_same : (p q : Ins × ℕ) → ◌≡◌ {A = Result (Ins × ℕ) DecodeFault} (Ok p) (Ok q) → p ≡ q
ok_same p q h = cc

-- the instruction at a good fact's place is that of its look
pub stands_at : (code : List ℕ) (f : Fact) (i : Ins) → IsGoodFact code f → IsAt code f.place i → (next : ℕ) × (look code f ≡ Stands i next)
stands_at code f i good at =
    let there = (fine code f good.0 good.1 good.2).there in
    let same : good.0 ≡ i = ap (λ (p : Ins × ℕ). p.0) (ok_same (good.0, good.1) (i, at.0) (sym there ∙ at.1)) in
    (good.1, good.2 ∙ ap (λ (x : Ins). Stands x good.1) same)

-- ---- a bad fact

named_breaks : (code : List ℕ) (session : ℕ) (f : Fact) (p : Ins × ℕ) (cause : CheckCause) → instruction_at code f.place ≡ Ok p
    → FirstTestNamed (is_indirect p.0) (is_main f.routine && is_some (counts p.0)) (nat_lt f.height (need p.0)) (not (places_inside (length code) p.0 p.1)) cause → Breaks code session cause f
named_breaks code session f p cause e (indirect h) = (p.0, p.1, e, h)
named_breaks code session f p cause e (returns h) = inl (p.0, p.1, e, h)
named_breaks code session f p cause e (under h) = inl (p.0, p.1, e, ltb-true f.height (need p.0) h)
named_breaks code session f p cause e (target h) = (p.0, p.1, e, not-true (places_inside (length code) p.0 p.1) h)

breaks_from : (code : List ℕ) (session : ℕ) (f : Fact) (d : Result (Ins × ℕ) DecodeFault) (cause : CheckCause) → instruction_at code f.place ≡ d → fact_look (length code) f d ≡ Bad cause → Breaks code session cause f
breaks_from code session f (Err fault.Undefined) cause e h = subst (λ (x : CheckCause). Breaks code session x f) (bad_same Undefined cause h) e
breaks_from code session f (Err fault.Past) cause e h = subst (λ (x : CheckCause). Breaks code session x f) (bad_same Past cause h) e
breaks_from code session f (Ok p) cause e h =
    named_breaks code session f p cause e (chain_bad (is_indirect p.0) (is_main f.routine && is_some (counts p.0)) (nat_lt f.height (need p.0)) (not (places_inside (length code) p.0 p.1)) p.0 p.1 cause h)

pub breaks : (code : List ℕ) (session : ℕ) (f : Fact) (cause : CheckCause) → look code f ≡ Bad cause → Breaks code session cause f
unfolding look
breaks code session f cause h = breaks_from code session f (instruction_at code f.place) cause refl h

-- ---- refusals

pub refuses_bad : (code : List ℕ) (session : ℕ) (f : Fact) (cause : CheckCause) → Reached code f → look code f ≡ Bad cause → Refuses code session f.place cause
refuses_bad code session f cause reached h = grind (arith, breaks, bad_same)

pub refuses_good : (code : List ℕ) (session : ℕ) (f : Fact) (cause : CheckCause) → Reached code f → IsGoodFact code f → Breaks code session cause f → Refuses code session f.place cause
refuses_good code session f cause reached good broken = grind (arith, breaks)
