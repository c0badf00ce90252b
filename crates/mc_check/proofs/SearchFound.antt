-- The result of the search: the bases of code, or a CALL by which a routine reaches itself.
use Rattle.std.proofs.Common.{◌≡◌, ℕ, ◌+◌, ◌<◌, ◌≤◌, List, [], length, map, get_or, replicate, Some, refl, sym, ap, subst, ◌∙◌, arith}
use Rattle.std.specs.Prelude.{slice_get, slice_index, option_map}
use Rattle.std.proofs.lemmas.Bool.{cases_eq}
use Rattle.std.proofs.lemmas.List.{length-map, length-replicate, get_or-replicate}
use Rattle.std.proofs.lemmas.List.Sums.{count_by-le-length}
use Rattle.std.proofs.lemmas.Option.{slice_get-get_or, slice_get_within, slice_get-map, get_or_from_slice_get, same_Some}
use Rattle.law_family.specs.model_machine.specs.declared.instruction.Ins.{Ins}
use Rattle.law_family.specs.model_text.specs.declared.checker.CheckCause.{CheckCause}
use Rattle.model_stack.specs.StackShape.{Routine, Main, At, Fact, fact, FactLook, Bad, Stands, look, Reached, IsBase, ReachesItself, Breaks}
use Rattle.model_stack.specs.StackShape as shape
use Rattle.mc_check.specs.Table.{routine_of, base_in, AreBases, IsFaultDue, IsRefusalOf}
use Rattle.mc_check.specs.declared.calls.Call.{Call}
use Rattle.mc_check.specs.declared.table.Refusal.{Refusal}
use Rattle.mc_check.specs.declared.table.Fault.{Fault}
use Rattle.mc_check.specs.declared.table.Fault.TheVariants.{NoMemory, Refused}
use Rattle.mc_check.specs.declared.bases.Progress.{Progress}
use Rattle.mc_check.specs.declared.bases.Progress.TheVariants as progress
use Rattle.mc_check.specs.CallList.{IsCalled, AreClosed, AreCalls, IsBaseIn, AreBasesIn, IsRing}
use Rattle.mc_check.specs.Searching.{IsSeen, StaySeen, Searches, base_of}
use Rattle.mc_check.proofs.Begins.{none_there}
use Rattle.mc_check.proofs.CallReporting.{called_is_inside}
use Rattle.mc_check.proofs.CallLemmas.{called_by, enters_of, is_base, no_recursion}

-- ---- the start

all_unseen : (n q : ℕ) (x : Progress) → slice_get (replicate n progress.Unseen) q ≡ Some x → progress.Unseen ≡ x
all_unseen n q x get =
    let within = slice_get_within (replicate n progress.Unseen) q x get in
    let inside : q < n = let len = length-replicate n progress.Unseen in omega arith in
    sym (get_or-replicate n q progress.Unseen x inside) ∙ get_or_from_slice_get (replicate n progress.Unseen) q x x get

starts_with : (l : List Call) (n : ℕ) → Searches l (replicate n progress.Unseen) []
starts_with l n = grind (arith, none_there, all_unseen, count_by-le-length)

pub starts : (l : List Call) (states : List Progress) (n : ℕ) → states ≡ replicate n progress.Unseen → Searches l states []
starts l states n is = subst (λ (s : List Progress). Searches l s []) (sym is) (starts_with l n)

-- ---- along the calls

-- the targets of the calls before a place were seen
abbrev pub SeenUpTo : List Call → List Progress → ℕ → Type 0
SeenUpTo l states n = (k : ℕ) (c : Call) → k < n → slice_get l k ≡ Some c → IsSeen states c.target

pub seen_more : (l : List Call) (states new : List Progress) (n : ℕ) (c : Call) → slice_get l n ≡ Some c → SeenUpTo l states n → StaySeen states new → IsSeen new c.target → SeenUpTo l new (n + 1)
seen_more l states new n c there so stay this k d lt get = grind (arith, cases_eq, same_Some)

-- ---- the end

done_by : (l : List Call) (states : List Progress) (q : ℕ) (x : Progress) → Searches l states [] → IsSeen states q → slice_get states q ≡ Some x → (b : ℕ) × (slice_get states q ≡ Some (progress.Done b))
done_by l states q x so seen there = grind (arith, none_there)

base_at : (states : List Progress) (q b : ℕ) → slice_get states q ≡ Some (progress.Done b) → slice_index (map base_of states) q ≡ b
base_at states q b there = get_or_from_slice_get (map base_of states) q b 0 (slice_get-map base_of states q ∙ ap (option_map base_of) there)

module _ (l : List Call) (states : List Progress) (n : ℕ) (closed : AreClosed (length states) l) (so : Searches l states []) (seen : SeenUpTo l states n) (all : length l ≤ n) where
  each_base : (q : ℕ) → IsCalled l q → IsBaseIn l q (slice_index (map base_of states) q)
  each_base q called =
      let has = called.2 in
      let within = slice_get_within l has.at has.call has.there in
      let was_seen = subst (λ (t : ℕ). IsSeen states t) has.target (seen has.at has.call (omega arith) has.there) in
      let inside = called_is_inside (length states) l q closed called in
      let done = done_by l states q (get_or states q progress.Unseen) so was_seen (slice_get-get_or states q progress.Unseen inside) in
      subst (λ (b : ℕ). IsBaseIn l q b) (sym (base_at states q done.0 done.1)) (so.bases q done.0 done.1)

  pub are_found : (len : ℕ) (bases : List ℕ) → length states ≡ len → bases ≡ map base_of states → AreBasesIn len l bases
  are_found len bases long is = subst (λ (b : List ℕ). AreBasesIn len l b) (sym is) (record { size = length-map states base_of ∙ long; each = each_base })

-- ---- bases of code

main_depth : {code : List ℕ} {r : Routine} {d : ℕ} → shape.Depth code r d → r ≡ Main → d ≡ 0
main_depth shape.main is = refl
main_depth (shape.called deep by) is = cc

main_base : (code : List ℕ) → IsBase code Main 0
main_base code = record { reached = shape.main; greatest = λ d deep. let none = main_depth deep refl in omega arith }

module _ (code : List ℕ) (l : List Call) (bases : List ℕ) (are : AreCalls code l) (found : AreBasesIn (length code) l bases) where
  routine_base : (f : Fact) (q : ℕ) → Reached code f → f.routine ≡ At q → IsBase code (At q) (slice_index bases q)
  routine_base f q reached is =
      let by = called_by reached q is in
      is_base code l q (slice_index bases q) are (found.each q (by.0, by.1, are.all by.0 by.1 q by.2))

  base_of_fact : (f : Fact) (r : Routine) → Reached code f → f.routine ≡ r → IsBase code r (base_in bases r)
  base_of_fact f Main reached is = main_base code
  base_of_fact f (At q) reached is = routine_base f q reached is

  pub are_bases : AreBases code bases
  are_bases = record {
    size = found.size;
    sound = no_recursion code (λ f q reached is. (slice_index bases q, routine_base f q reached is));
    each = λ f reached. base_of_fact f f.routine reached refl;
  }

-- ---- a refusal

not_bad : (o : FactLook) (i : Ins) (next : ℕ) (alone : CheckCause) → o ≡ Stands i next → o ≡ Bad alone → ⊥
not_bad o i next alone stands bad = cc

refusal_of : (code : List ℕ) (l : List Call) (r : Refusal) (session : ℕ) → AreCalls code l → IsRing l (Refused r) → IsRefusalOf code session r
refusal_of code l r session are ring =
    let c = ring.0 in
    let is = are.each ring.1.at c ring.1.there in
    let f = fact (routine_of c.caller) c.place c.height in
    let itself : ReachesItself code f = record { call = is.ins; stands = is.stands; to = c.target; target = is.target; enters = enters_of are ring.1.enters } in
    record {
      fact = f;
      reached = is.reached;
      at = sym ring.2;
      breaks = subst (λ (cause : CheckCause). Breaks code session cause f) (sym ring.3) itself;
      first = λ alone bad. absurd (not_bad (look code f) is.good.0 is.good.1 alone is.good.2 bad);
    }

pub fault_of : (code : List ℕ) (l : List Call) (fault : Fault) → AreCalls code l → IsRing l fault → IsFaultDue code fault
fault_of code l NoMemory are ring = tt
fault_of code l (Refused r) are ring = λ session. refusal_of code l r session are ring
