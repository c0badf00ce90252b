-- The search after a step: from the start, and after a plain instruction, a CALL or a return was followed.
use Rattle.std.proofs.Common.{arith, ◌≡◌, ◌<◌, ℕ, true, false, ◌&&◌, is_some, List, [], ◌∷◌, length, replicate, slice_get, Option, Some, None, Result, OnOk, Ok, Err, refl, sym, subst, inl, inr}
use Rattle.std.proofs.lemmas.Bool.{true≢false}
use Rattle.model_stack.specs.StackRows.{counts, goes_on, jump_target, call_target, is_conditional, height_after}
use Rattle.model_stack.specs.StackShape.{Routine, Main, At, fact, is_main, ReturnsWith}
use Rattle.mc_check.specs.declared.shape.Counts.{Counts as Pair}
use Rattle.mc_check.specs.declared.closing.Found.{Found}
use Rattle.mc_check.specs.Table.{IsIn}
use Rattle.mc_check.specs.Closing.{found_fact, IsFound, Tables, IsFit, ComesBack, ClosedOrWaiting, AddsFacts}
use Rattle.mc_check.proofs.ClosingLists.{in_empty}
use Rattle.mc_check.proofs.FactLooks.{fine}
use Rattle.mc_check.proofs.ClosingPlaces.{BeginsInside, reached_inside}
use Rattle.mc_check.proofs.ClosingTables.{adds_none, adds_then, open_followed, closed_return}
use Rattle.mc_check.proofs.ClosingSteps.{closed_call, closed_step, closed_high}

pub on_ok_three : {T E P Q R S : Type 0} (r : Result T E) → (P → Q → R → S) → OnOk r P → OnOk r Q → OnOk r R → OnOk r S
on_ok_three (Ok x) f a b c = f a b c
on_ok_three (Err e) f a b c = c

-- ---- the start

-- the tables of code without facts
abbrev pub empty : ℕ → Tables
empty len = record { table = replicate len None; counts = replicate len None; work = [] }

pub started : (code : List ℕ) (a b : Tables) → a ≡ empty (length code) → AddsFacts a b → IsFit code b → IsIn b.table (fact Main 0 0) → ClosedOrWaiting code b.work b
started code a b e adds fit first = record {
  fit = fit;
  first = first;
  closed = λ f m. elim (adds.fresh f m) [
    | inl before ↦ absurd (in_empty (length code) f (subst (λ (x : Tables). IsIn x.table f) e before))
    | inr waits ↦ inr waits
  ];
}

-- ---- a fact that was found, in the tables

module _ (code : List ℕ) (found : Found) (a : Tables) (state : ClosedOrWaiting code (found.place ∷ a.work) a) (here : IsIn a.table (found_fact found)) (there : IsFound code found) where
  pub step_done : (b d : Tables) → call_target found.seen.ins ≡ None → counts found.seen.ins ≡ None → AddsFacts a b
      → (goes_on found.seen.ins ≡ true → IsIn b.table (fact (found_fact found).routine found.seen.next (height_after found.seen.ins found.entry.height)))
      → IsFit code d → AddsFacts b d → ((to : ℕ) → jump_target found.seen.ins found.seen.next ≡ Some (Some to) → IsIn d.table (fact (found_fact found).routine to found.entry.height))
      → ClosedOrWaiting code d.work d
  step_done b d plain stays first goes fit second jumps =
      open_followed code found.place a d (found_fact found) state (adds_then a b d first second) fit here refl
      (closed_step code d.table d.counts (found_fact found) found.seen.ins found.seen.next there.stands plain stays (λ on. second.kept _ (goes on)) jumps)

  pub call_done : (b d e : Tables) (q : ℕ) → call_target found.seen.ins ≡ Some q → AddsFacts a b → IsIn b.table (fact (At q) q 0) → AddsFacts b d
      → (is_conditional found.seen.ins ≡ true → IsIn d.table (fact (found_fact found).routine found.seen.next found.entry.height))
      → IsFit code e → AddsFacts d e → ((c : Pair) → slice_get e.counts q ≡ Some (Some c) → ComesBack e.table (found_fact found) found.seen.next c.less c.more)
      → ClosedOrWaiting code e.work e
  call_done b d e q call first entered second passed fit third back =
      open_followed code found.place a e (found_fact found) state (adds_then a b e first (adds_then b d e second third)) fit here refl
      (closed_call code e.table e.counts (found_fact found) found.seen.ins found.seen.next there.stands q call (third.kept _ (second.kept _ entered)) (λ conditional. third.kept _ (passed conditional)) back)

  pub high_done : 512 < found.entry.height → counts found.seen.ins ≡ None → ClosedOrWaiting code a.work a
  high_done high stays =
      open_followed code found.place a a (found_fact found) state (adds_none a) state.fit here refl
      (closed_high code a.table a.counts (found_fact found) found.seen.ins found.seen.next there.stands high stays (λ q c known. (state.fit.real q c known).less))

  -- a return whose routine has the same counts already
  pub return_known : (q : ℕ) (c : Pair) → (found_fact found).routine ≡ At q → counts found.seen.ins ≡ Some (c.less, c.more) → slice_get a.counts q ≡ Some (Some c) → ClosedOrWaiting code a.work a
  return_known q c at e known = grind (arith, open_followed, adds_none, closed_return)

  pub routine_begins : (q : ℕ) → (found_fact found).routine ≡ At q → q < length code
  routine_begins q at = subst (λ (r : Routine). BeginsInside (length code) r) at (reached_inside (state.fit.sound (found_fact found) here).0)

  -- the counts that are known of the routine of a return
  pub known_counts : (q : ℕ) (c : Pair) → (found_fact found).routine ≡ At q → slice_get a.counts q ≡ Some (Some c) → ReturnsWith code (found_fact found).routine c.less c.more
  known_counts q c at known = subst (λ (r : Routine). ReturnsWith code r c.less c.more) (sym at) (state.fit.real q c known).counts

-- a return of main breaks a rule
pub main_returns_not : (code : List ℕ) (found : Found) (c : ℕ × ℕ) → (found_fact found).routine ≡ Main → IsFound code found → counts found.seen.ins ≡ Some c → ⊥
main_returns_not code found c main there e =
    let stays = (fine code (found_fact found) found.seen.ins found.seen.next there.stands).stays in
    let by_main = subst (λ (r : Routine). (is_main r && is_some (counts found.seen.ins)) ≡ false) main stays in
    let by_counts = subst (λ (o : Option (ℕ × ℕ)). is_some o ≡ false) e by_main in
    true≢false by_counts
