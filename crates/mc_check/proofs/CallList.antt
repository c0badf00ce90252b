-- The list of calls, as it grows along the table.
use Rattle.std.proofs.Common.{◌≡◌, ℕ, ◌+◌, ◌<◌, ◌≤◌, List, [], ◌∷◌, ◌++◌, length, Option, Some, None, Result, Ok, Err, refl, sym, ap, subst, inl, inr, ◌∙◌, arith}
use Rattle.std.specs.Prelude.{slice_get, option_map}
use Rattle.std.proofs.lemmas.Bool.{cases_eq}
use Rattle.std.proofs.lemmas.Option.{slice_get_within, same_Some}
use Rattle.law_family.specs.model_machine.specs.declared.instruction.Ins.{Ins}
use Rattle.law_family.specs.model_machine.specs.declared.instruction.DecodeFault.{DecodeFault}
use Rattle.law_family.specs.model_machine.specs.Code.{instruction_at}
use Rattle.model_stack.specs.StackRows.{call_target}
use Rattle.model_stack.specs.StackShape.{Routine, Fact, fact, Calls}
use Rattle.mc_check.specs.Table.{routine_of, fact_of, IsWholeTable}
use Rattle.mc_check.specs.declared.calls.Call.{Call}
use Rattle.mc_check.specs.declared.table.Entry.{Entry}
use Rattle.mc_check.specs.CallList.{target_of, call_of, ListsCall, IsCall, AreCalls}
use Rattle.mc_check.proofs.ListPlaces.{get_push, get_push_before, get_push_last, before, last}
use Rattle.mc_check.proofs.CallLemmas.{target_is_inside, called_by}

-- the calls of the entries before a place
pub record ListsUpTo (code : List ℕ) (t : List (Option Entry)) (n : ℕ) (l : List Call) : Type 0 where
  pub each : (k : ℕ) (c : Call) → slice_get l k ≡ Some c → IsCall code c
  pub heights : (k : ℕ) (c : Call) → slice_get l k ≡ Some c → c.height ≤ 65535
  pub found : (p : ℕ) (e : Entry) (q : ℕ) → p < n → slice_get t p ≡ Some (Some e) → target_of (instruction_at code p) ≡ Some q → ListsCall l (routine_of e.routine) e.height q

-- ---- one entry more

target_from : (r : Result (Ins × ℕ) DecodeFault) (q : ℕ) → target_of r ≡ Some q → (i : Ins) × (next : ℕ) × (r ≡ Ok (i, next)) × (call_target i ≡ Some q)
target_from (Ok (i, next)) q e = (i, next, refl, e)
target_from (Err fault) q e = cc

target_at : (r : Result (Ins × ℕ) DecodeFault) (i : Ins) (next q : ℕ) → r ≡ Ok (i, next) → call_target i ≡ Some q → target_of r ≡ Some q
target_at r i next q is target = ap target_of is ∙ target

-- the call of an entry is one of the code
is_call : (code : List ℕ) (t : List (Option Entry)) (p : ℕ) (e : Entry) (q : ℕ) → IsWholeTable code t → slice_get t p ≡ Some (Some e) → target_of (instruction_at code p) ≡ Some q → IsCall code (call_of p e q)
is_call code t p e q whole there target =
    let found = target_from (instruction_at code p) q target in
    let sound = whole.sound (fact_of p e) (e, there, refl) in
    record { reached = sound.0; good = sound.1; ins = found.0; stands = (found.1, found.2); target = found.3 }

has_push : (l : List Call) (c : Call) (r : Routine) (h q : ℕ) → ListsCall l r h q → ListsCall (l ++ c ∷ []) r h q
has_push l c r h q has = record { at = has.at; call = has.call; there = get_push_before l c has.call has.at has.there; caller = has.caller; height = has.height; target = has.target }

has_last : (l : List Call) (p : ℕ) (e f : Entry) (q t : ℕ) → e ≡ f → q ≡ t → ListsCall (l ++ call_of p e q ∷ []) (routine_of f.routine) f.height t
has_last l p e f q t same target = record {
  at = length l;
  call = call_of p e q;
  there = get_push_last l (call_of p e q);
  caller = ap (λ (x : Entry). routine_of x.routine) same;
  height = ap (λ (x : Entry). x.height) same;
  target = target;
}

same_entry : (o : Option (Option Entry)) (e f : Entry) → o ≡ Some (Some e) → o ≡ Some (Some f) → e ≡ f
same_entry o e f a b = cc

same_target : (o : Option ℕ) (q t : ℕ) → o ≡ Some q → o ≡ Some t → q ≡ t
same_target o q t a b = cc

-- the target of a listed call, and that no call is listed without a target
call_from : (p : ℕ) (e : Entry) (c : Call) (o : Option ℕ) → option_map (call_of p e) o ≡ Some c → (q : ℕ) × (o ≡ Some q) × (call_of p e q ≡ c)
call_from p e c None is = cc
call_from p e c (Some q) is = (q, refl, same_Some (call_of p e q) c is)

no_call : (p : ℕ) (e : Entry) (q : ℕ) (o : Option ℕ) → o ≡ Some q → option_map (call_of p e) o ≡ None → ⊥
no_call p e q None is none = cc
no_call p e q (Some t) is none = cc

module _ (code : List ℕ) (t : List (Option Entry)) (n : ℕ) (l : List Call) (so : ListsUpTo code t n l) where
  -- no call is listed at the next place
  pub lists_same : ((e : Entry) → slice_get t n ≡ Some (Some e) → option_map (call_of n e) (target_of (instruction_at code n)) ≡ None) → ListsUpTo code t (n + 1) l
  lists_same none = record {
    each = so.each;
    heights = so.heights;
    found = λ p e q lt there target. elim (cases_eq p n) [
      | inl same ↦ absurd (no_call n e q (target_of (instruction_at code n)) (subst (λ (k : ℕ). target_of (instruction_at code k) ≡ Some q) same target) (none e (subst (λ (k : ℕ). slice_get t k ≡ Some (Some e)) same there)))
      | inr other ↦ so.found p e q (omega arith) there target
    ];
  }

  -- a call is listed at the next place
  lists_call : (e : Entry) (q : ℕ) → e.height ≤ 65535 → IsWholeTable code t → slice_get t n ≡ Some (Some e) → target_of (instruction_at code n) ≡ Some q → ListsUpTo code t (n + 1) (l ++ call_of n e q ∷ [])
  lists_call e q small whole there target =
      let this = is_call code t n e q whole there target in
      record {
        each = λ k c get. elim (get_push l (call_of n e q) k c get) [
          | before lt old ↦ so.each k c old
          | last at same ↦ subst (λ (x : Call). IsCall code x) same this
        ];
        heights = λ k c get. elim (get_push l (call_of n e q) k c get) [
          | before lt old ↦ so.heights k c old
          | last at same ↦ subst (λ (x : Call). x.height ≤ 65535) same small
        ];
        found = λ p f s lt here to. elim (cases_eq p n) [
          | inl same ↦ has_last l n e f q s (same_entry (slice_get t n) e f there (subst (λ (k : ℕ). slice_get t k ≡ Some (Some f)) same here)) (same_target (target_of (instruction_at code n)) q s target (subst (λ (k : ℕ). target_of (instruction_at code k) ≡ Some s) same to))
          | inr other ↦ has_push l (call_of n e q) (routine_of f.routine) f.height s (so.found p f s (omega arith) here to)
        ];
      }

  pub lists_more : (e : Entry) (c : Call) → c.height ≤ 65535 → IsWholeTable code t → slice_get t n ≡ Some (Some e) → option_map (call_of n e) (target_of (instruction_at code n)) ≡ Some c → ListsUpTo code t (n + 1) (l ++ c ∷ [])
  lists_more e c small whole there is =
      let found = call_from n e c (target_of (instruction_at code n)) is in
      subst (λ (x : Call). ListsUpTo code t (n + 1) (l ++ x ∷ [])) found.2 (lists_call e found.0 (subst (λ (x : Call). x.height ≤ 65535) (sym found.2) small) whole there found.1)

-- ---- the whole table

has_at : (l : List Call) (r s : Routine) (h k q : ℕ) → r ≡ s → h ≡ k → ListsCall l r h q → ListsCall l s k q
has_at l r s h k q same_routine same_height has = record { at = has.at; call = has.call; there = has.there; caller = has.caller ∙ same_routine; height = has.height ∙ same_height; target = has.target }

pub are_calls : (code : List ℕ) (t : List (Option Entry)) (n : ℕ) (l : List Call) → length t ≤ n → IsWholeTable code t → ListsUpTo code t n l → AreCalls code l
are_calls code t n l long whole so =
    let all : (r : Routine) (h q : ℕ) → Calls code r h q → ListsCall l r h q = λ r h q by.
    let here = whole.all (fact r by.place h) by.reached in
    let inside = slice_get_within t by.place (Some here.0) here.1 in
    let has = so.found by.place here.0 q (omega arith) here.1 (target_at (instruction_at code by.place) by.call by.stands.0 q by.stands.1 by.target) in
    has_at l (routine_of here.0.routine) r here.0.height h q (ap (λ (f : Fact). f.routine) here.2) (ap (λ (f : Fact). f.height) here.2) has in
    record {
      closed = record {
        inside = λ k c get. let is = so.each k c get in target_is_inside code (fact (routine_of c.caller) c.place c.height) is.ins c.target is.good is.stands is.target;
        heights = so.heights;
        callers = λ k c p get at. let by = called_by (so.each k c get).reached p (ap routine_of at) in (by.0, by.1, all by.0 by.1 p by.2);
      };
      each = so.each;
      all = all;
    }
