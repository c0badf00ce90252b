-- One step of the search: the routine that was entered last is left with its base, or an unseen caller of it is
-- entered.
use Rattle.std.proofs.Common.{◌≡◌, ℕ, ◌+◌, ◌-◌, ◌*◌, ◌<◌, ◌≤◌, cond, List, [], ◌∷◌, ◌++◌, length, get_or, set, take, Some, refl, sym, ap, subst, ◌∙◌, arith}
use Rattle.std.specs.Prelude.{slice_get}
use Rattle.std.proofs.lemmas.Bool.{cases_eq}
use Rattle.std.proofs.lemmas.List.{length-set, length-append, length-take}
use Rattle.std.proofs.lemmas.List.Sums.{sum_by-set}
use Rattle.std.proofs.lemmas.Option.{slice_get-get_or, slice_get_within, get_or_from_slice_get, same_Some}
use Rattle.model_stack.specs.StackShape.{At}
use Rattle.mc_check.specs.Table.{routine_of}
use Rattle.mc_check.specs.declared.calls.Call.{Call}
use Rattle.mc_check.specs.declared.table.Routine.TheVariants as owner
use Rattle.mc_check.specs.declared.bases.Progress.{Progress}
use Rattle.mc_check.specs.declared.bases.Progress.TheVariants as progress
use Rattle.mc_check.specs.declared.bases.Answer.TheVariants as answer
use Rattle.mc_check.specs.CallList.{ListsCall, IsCalled, AreClosed, EntersIn, IsBaseIn, ClosesRing}
use Rattle.mc_check.specs.CallList as list
use Rattle.mc_check.specs.Searching.{CallReports, Answers, is_unseen, count_of_unseen, StaySeen, Searches, remaining_work}
use Rattle.mc_check.proofs.ListPlaces.{get_set_same, get_set_other, get_push_before, get_push_last, get_push, before, last, get_take, take_get}
use Rattle.mc_check.proofs.CallReporting.{called_is_inside, caller_is_inside}
use Rattle.mc_check.proofs.ReportedBases.{reported_unseen, reported_open, reported_bound, base_found}

-- ---- one change of a state

-- the number of unseen routines after the change
pub unseen_set : (states : List Progress) (p : ℕ) (x y : Progress) → slice_get states p ≡ Some y → count_of_unseen (set states p x) + cond (is_unseen y) 1 0 ≡ count_of_unseen states + cond (is_unseen x) 1 0
unseen_set states p x y there =
    let weight : Progress → ℕ = λ z. cond (is_unseen z) 1 0 in
    ap (λ (z : Progress). count_of_unseen (set states p x) + cond (is_unseen z) 1 0) (sym (get_or_from_slice_get states p y y there))
    ∙ sum_by-set weight states p x y (slice_get_within states p y there)

-- the state at a place after the change: the one that was written there, or the one from before
pub data Written (states : List Progress) (p : ℕ) (x : Progress) (q : ℕ) (y : Progress) : Type 0 where
  this : q ≡ p → x ≡ y → Written states p x q y
  other : (q ≡ p → ⊥) → slice_get states q ≡ Some y → Written states p x q y

pub written : (states : List Progress) (p : ℕ) (x : Progress) (q : ℕ) (y : Progress) → p < length states → slice_get (set states p x) q ≡ Some y → Written states p x q y
written states p x q y inside get = grind (arith, cases_eq, this, same_Some, get_set_same, other, get_set_other)

-- a written state that is not unseen leaves what was seen
pub stay_seen : (states : List Progress) (p : ℕ) (x : Progress) → p < length states → (x ≡ progress.Unseen → ⊥) → StaySeen states (set states p x)
stay_seen states p x inside seen q was get = grind (arith, written, this, other)

-- ---- numbers

-- the bound on bases, with one unseen routine fewer and one open routine more
pub entered_bound : (n u s m v t b : ℕ) → m ≡ n → v + 1 ≡ u → t ≡ s + 1 → u + s ≤ n → b ≤ 65539 * (n - u - s) → b ≤ 65539 * (m - v - t)
entered_bound n u s m v t b em ev et room low = grind arith

-- the bound on bases, with one open routine fewer
left_bound : (n u s m v t b : ℕ) → m ≡ n → v ≤ u → t + 1 ≡ s → u + s ≤ n → b ≤ 65539 * (n - u - s) + 65539 → b ≤ 65539 * (m - v - t)
left_bound n u s m v t b em ev et room low = grind arith

left_old_bound : (n u s m v t b : ℕ) → m ≡ n → v ≤ u → t + 1 ≡ s → u + s ≤ n → b ≤ 65539 * (n - u - s) → b ≤ 65539 * (m - v - t)
left_old_bound n u s m v t b em ev et room low = left_bound n u s m v t b em ev et room (omega arith)

-- ---- the steps

-- the search goes on, what was seen stays seen, and less is left to do
pub record IsStep (l : List Call) (states : List Progress) (stack : List ℕ) (new : List Progress) (now : List ℕ) : Type 0 where
  pub searches : Searches l new now
  pub seen : StaySeen states new
  pub nearer : remaining_work new now < remaining_work states stack

step_as : (l : List Call) (states : List Progress) (stack : List ℕ) (new next : List Progress) (now then : List ℕ) → new ≡ next → now ≡ then → IsStep l states stack next then → IsStep l states stack new now
step_as l states stack new next now then e f step = subst (λ (x : List Progress). IsStep l states stack x now) (sym e) (subst (λ (y : List ℕ). IsStep l states stack next y) (sym f) step)

module _ (states : List Progress) (l : List Call) (stack : List ℕ) (q : ℕ) (closed : AreClosed (length states) l) (so : Searches l states stack) (top : slice_get stack (length stack - 1) ≡ Some q) where
  -- the last open routine is called
  pub last_called : IsCalled l q
  last_called = so.called (length stack - 1) q top

  pub last_inside : q < length states
  last_inside = called_is_inside (length states) l q closed last_called

  some_open : 0 < length stack
  some_open = let inside = slice_get_within stack (length stack - 1) q top in omega arith

  -- an unseen caller
  module _ (p : ℕ) (reports : CallReports states l q (answer.Unseen p)) where
    caller : reports.call.caller ≡ owner.At p
    caller = (reported_unseen states reports.call p reports.call.caller reports.reports).by

    pub caller_inside : p < length states
    caller_inside = caller_is_inside (length states) l reports.at reports.call closed reports.there p caller

    unseen_there : slice_get states p ≡ Some progress.Unseen
    unseen_there =
        let there = slice_get-get_or states p progress.Unseen caller_inside in
        there ∙ ap Some ((reported_unseen states reports.call p reports.call.caller reports.reports).none (get_or states p progress.Unseen) there)

    fewer : count_of_unseen (set states p progress.Open) + 1 ≡ count_of_unseen states
    fewer = let less = unseen_set states p progress.Open progress.Unseen unseen_there in omega arith

    more : length (stack ++ p ∷ []) ≡ length stack + 1
    more = length-append stack (p ∷ [])

    -- the new routine calls the last one, so it reaches all that are open
    way : (i a : ℕ) → slice_get stack i ≡ Some a → EntersIn l (At p) (At a)
    way i a there =
        let inside = slice_get_within stack i a there in
        let has : ListsCall l (At p) reports.call.height q = record { at = reports.at; call = reports.call; there = reports.there; caller = ap routine_of caller; height = refl; target = reports.target } in
        list.further has (so.enters i (length stack - 1) a q (omega arith) there top)

    enters_pushed : (i j a b : ℕ) → i ≤ j → slice_get (stack ++ p ∷ []) i ≡ Some a → slice_get (stack ++ p ∷ []) j ≡ Some b → EntersIn l (At b) (At a)
    enters_pushed i j a b le first second = elim (get_push stack p j b second) [
      | before lt old ↦ elim (get_push stack p i a first) [
        | before less this_one ↦ so.enters i j a b le this_one old
        | last at same ↦ absurd (omega arith)
      ]
      | last at is ↦ elim (get_push stack p i a first) [
        | before less this_one ↦ subst (λ (x : ℕ). EntersIn l (At x) (At a)) is (way i a this_one)
        | last here same ↦ subst (λ (x : ℕ). EntersIn l (At b) (At x)) (sym is ∙ same) list.same
      ]
    ]

    on_pushed : (r : ℕ) → slice_get (set states p progress.Open) r ≡ Some progress.Open → (k : ℕ) × (slice_get (stack ++ p ∷ []) k ≡ Some r)
    on_pushed r get = elim (written states p progress.Open r progress.Open caller_inside get) [
      | this same is ↦ (length stack, get_push_last stack p ∙ ap Some (sym same))
      | other ne old ↦ let at = so.on_stack r old in (at.0, get_push_before stack p r at.0 at.1)
    ]

    entered : Searches l (set states p progress.Open) (stack ++ p ∷ [])
    entered = record {
      called = λ k r get. elim (get_push stack p k r get) [
        | before lt old ↦ so.called k r old
        | last at is ↦ subst (λ (x : ℕ). IsCalled l x) is (closed.callers reports.at reports.call p reports.there caller)
      ];
      enters = enters_pushed;
      on_stack = on_pushed;
      bases = λ r b get. elim (written states p progress.Open r (progress.Done b) caller_inside get) [
        | this same is ↦ absurd (cc is)
        | other ne old ↦ so.bases r b old
      ];
      room = let len = length-set states p progress.Open in let f = fewer in let m = more in let r = so.room in omega arith;
      bound = grind (arith, written, caller_inside, this, other, entered_bound, length-set, fewer, more);
    }

    entered_nearer : remaining_work (set states p progress.Open) (stack ++ p ∷ []) < remaining_work states stack
    entered_nearer = let f = fewer in let m = more in omega arith

    pub enters : (new : List Progress) (now : List ℕ) → new ≡ set states p progress.Open → now ≡ stack ++ p ∷ [] → IsStep l states stack new now
    enters new now e f = step_as l states stack new (set states p progress.Open) now (stack ++ p ∷ []) e f (record { searches = entered; seen = stay_seen states p progress.Open caller_inside (λ same. cc); nearer = entered_nearer })

  -- an open caller
  pub closes_ring : (place : ℕ) (reports : CallReports states l q (answer.Open place)) → ClosesRing l reports.call × (reports.call.place ≡ place)
  closes_ring place reports = grind (arith, reported_open, slice_get_within, way, enters)

  -- a base
  module _ (b : ℕ) (answers : Answers states l q (answer.Base b)) where
    there_is : slice_get states q ≡ Some (get_or states q progress.Open)
    there_is = slice_get-get_or states q progress.Open last_inside

    no_more : count_of_unseen (set states q (progress.Done b)) ≤ count_of_unseen states
    no_more = let less = unseen_set states q (progress.Done b) (get_or states q progress.Open) there_is in omega arith

    one_less : length (take (length stack - 1) stack) + 1 ≡ length stack
    one_less = let len = length-take (length stack - 1) stack in let some = some_open in omega arith

    on_popped : (r : ℕ) → slice_get (set states q (progress.Done b)) r ≡ Some progress.Open → (k : ℕ) × (slice_get (take (length stack - 1) stack) k ≡ Some r)
    on_popped r get = grind (arith, written, last_inside, this, other, slice_get_within, cases_eq, same_Some, take_get)

    left_behind : Searches l (set states q (progress.Done b)) (take (length stack - 1) stack)
    left_behind = record {
      called = λ k r get. so.called k r (get_take (length stack - 1) stack k r get).1;
      enters = λ i j a c le first second. so.enters i j a c le (get_take (length stack - 1) stack i a first).1 (get_take (length stack - 1) stack j c second).1;
      on_stack = on_popped;
      bases = λ r d get. elim (written states q (progress.Done b) r (progress.Done d) last_inside get) [
        | this same is ↦ subst (λ (x : ℕ). IsBaseIn l x d) (sym same) (subst (λ (x : ℕ). IsBaseIn l q x) (cc is) (base_found states l so.bases q b answers))
        | other ne old ↦ so.bases r d old
      ];
      room = let len = length-set states q (progress.Done b) in let f = no_more in let m = one_less in let r = so.room in omega arith;
      bound = grind (arith, written, last_inside, this, reported_bound, left_bound, length-set, no_more, one_less, other, left_old_bound);
    }

    left_nearer : remaining_work (set states q (progress.Done b)) (take (length stack - 1) stack) < remaining_work states stack
    left_nearer = let f = no_more in let m = one_less in omega arith

    pub leaves : (new : List Progress) (now : List ℕ) → new ≡ set states q (progress.Done b) → now ≡ take (length stack - 1) stack → IsStep l states stack new now
    leaves new now e f = step_as l states stack new (set states q (progress.Done b)) now (take (length stack - 1) stack) e f (record { searches = left_behind; seen = stay_seen states q (progress.Done b) last_inside (λ same. cc); nearer = left_nearer })
